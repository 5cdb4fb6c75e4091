pub mod ProcessWords
