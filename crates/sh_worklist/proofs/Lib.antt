mod CallLemmas
mod FlagLemmas
mod WaitLemmas
