pub mod ChainLines
pub mod EventLines
pub mod EventTexts
pub mod TextLaws
