pub mod Answers
pub mod ShownLines
