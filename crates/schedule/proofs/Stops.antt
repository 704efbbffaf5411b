-- Where a line breaks the form: what stands before that byte begins a line of the form, and no line of the form goes on with it.
pub mod Begins
pub mod Same
pub mod Breaks
