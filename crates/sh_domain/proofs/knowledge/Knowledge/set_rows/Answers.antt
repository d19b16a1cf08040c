use Rattle.sh_domain.proofs.knowledge.Knowledge.set_rows.Goals as goal

pub returns-in-NotReached : goal.returns-in-NotReached
returns-in-NotReached c names h = let never = c.in-NotReached.is in cc

pub add_rows-requires-clause-vars : goal.add_rows-requires-clause-vars
add_rows-requires-clause-vars c k = let same = c.in-Known.is in let none = c.none.ensures.vars k in cc

pub add_rows-requires-clause-functions : goal.add_rows-requires-clause-functions
add_rows-requires-clause-functions c k = let same = c.in-Known.is in let none = c.none.ensures.functions k in cc
