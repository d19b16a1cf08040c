-- Answers that may be errors.
use Rattle.std.proofs.Common.{Result, Ok, Err, OnErr}

pub whatever : {X Y P : Type 0} (r : Result X Y) → P → OnErr r P
whatever (Ok x) p = tt
whatever (Err e) p = p
