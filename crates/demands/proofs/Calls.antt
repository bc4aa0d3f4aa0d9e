-- Demands 1 and 2, of calls and the wire: refusals, replies, and what each call leaves.
pub mod Answered
pub mod Taken
pub mod Formats
pub mod Sentences
pub mod CodesChecked
pub mod Checking
pub mod Written
pub mod Replies
pub mod Errors
pub mod LinesHeld
pub mod ReadsBack
pub mod Leaves
pub mod BadLines
pub mod FirstSteps
