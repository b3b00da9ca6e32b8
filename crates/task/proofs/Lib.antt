-- What is shown of the task: what holds of every step, its course, and each thing that it does.
pub mod Always
pub mod Books
pub mod Courses
pub mod Performing
pub mod Reporting
pub mod Running
pub mod Sheets
pub mod Traced
