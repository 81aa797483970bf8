mod CommandLemmas
mod CommandWords
