pub mod Words
pub mod Align
pub mod Fields
pub mod Layouts
pub mod WordsLemmas
pub mod Headers
pub mod NlmsgerrRecordLemmas
