pub mod CoinWords
pub mod VerdictWords
