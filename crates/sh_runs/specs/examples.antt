-- Programs, words and commands, against which the definitions are held by laws.

-- runs of small programs (XCU 2.6, 2.9, 2.15)
pub mod Runs
-- runs to their end: jumps, redirections, assignments, built-in utilities, calls, processes (XCU
-- 2.7, 2.8.1, 2.9, 2.15)
pub mod Steps
-- what words expand to (XCU 2.5.2, 2.6)
pub mod Fields
-- what the form of a word says of its fields (XCU 2.6.5)
pub mod Forms
-- commands that are refused, and others (XCU 2.9.1, 2.9.5, 2.15, 3)
pub mod Profile
-- runs that have an event (XCU 2.5.3, 2.6.5, 2.9.2, 2.15)
pub mod Events
-- programs that come to a utility without a row, and others (XCU 2.9.1.4, 2.15)
pub mod Rows
