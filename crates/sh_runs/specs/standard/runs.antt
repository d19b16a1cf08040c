-- What a shell does with a program: POSIX.1-2024, XCU, by the sections at each line.

-- 2.5 (parameters and variables), 2.6.5 (separators), 2.9.5 (functions), 2.13 (shell execution
-- environment)
pub mod Environment
-- 2.5.2 (special parameters), 2.6.4 (integer constants)
pub mod Numbers
-- 2.6 to 2.9, 2.13, 2.15, 3 (what they leave open)
pub mod Answers
-- 2.6 (what an expansion has and changes)
pub mod States
-- 1.1.2.1, 2.6.4 (arithmetic)
pub mod Arithmetic
-- 2.2.3, 2.5, 2.6 (word expansions)
pub mod Expansion
-- 2.6.5 (field splitting), 2.6.6 (pathname expansion), 2.6.7 (quote removal), 2.14 (patterns)
pub mod Fields
-- 2.15, 3, XBD 12.2 (the operands of built-in utilities)
pub mod Operands
-- 2.9, 2.13 (what is left to do, and what a step does), 2.15 (jumps)
pub mod Work
-- 2.8.1, 2.9, 2.15, 3 (built-in utilities)
pub mod Builtins
-- 2.6, 2.7 (redirection), 2.8 (errors), 2.9 (shell commands)
pub mod Steps
-- 2.5.3, 3 (the start), 2.9.2 (pipelines), 2.9.3.1 (asynchronous lists), 2.13 (processes and what
-- they share)
pub mod Worlds
-- 2.9.1.4, 2.15, 3 (which built-in utilities the steps speak of)
pub mod Rows
