mod Alike
mod Commands
mod Fronts
mod Replies
mod Rows
