-- What a whole read of a reader gives, and what a write that failed has written.
use Rattle.std.proofs.Common.{◌≡◌, ◌<◌, ◌≤◌, inl, inr, ℕ, List, length, take, Option, None, Some, Result, Ok, Err, Vec, IfOk, vec_len, refl, subst, arith}
use Rattle.std.specs.Io.KnownBytes.{Appends}
use Rattle.std.specs.declared.alloc.Global.{Global}
use Rattle.sh_accept.specs.Written.{Tells}
use Rattle.sh_answers.specs.Moves.{Had, IsReadWhole, TookAtMost, TookWhole}
use Rattle.sh_answers.specs.declared.ends.Counts.{Counts}
use Rattle.sh_answers.specs.declared.task.Task.{Task}
use Rattle.sh_report.specs.Runs.{IsRead, WritesFront}

-- no more than are asked for
few : (old new : Counts) (left : Option (List ℕ)) (limit n : ℕ) → IsReadWhole old new left limit n → n ≤ limit
few old new left limit n (inl h) = omega (arith, h.1)
few old new left limit n (inr h) = omega (arith, h.1)

pub at_most : (old new : Counts) (before left : Option (List ℕ)) (limit : ℕ) → TookWhole old new before left limit → TookAtMost before left limit
at_most old new before left limit h = (h.0, few old new left limit (length h.0) h.2, h.1)

is_read_few : (known : Option (List ℕ)) (limit : ℕ) (v : List ℕ) → ((b : List ℕ) → Had known limit b → v ≡ b) → length v ≤ limit → IsRead known limit v
is_read_few None limit v taken l = l
is_read_few (Some xs) limit v taken l = taken (take limit xs) refl

pub is_read : (known left : Option (List ℕ)) (old new : Counts) (limit : ℕ) (v : Vec ℕ Global) → ((b : List ℕ) → Had known limit b → v.items ≡ b) → IsReadWhole old new left limit (vec_len v)
    → IsRead known limit v.items
is_read known left old new limit v taken whole = is_read_few known limit v.items taken (omega (arith, v.ok, few old new left limit (vec_len v) whole))

pub if_read : {E : Type 0} (known left : Option (List ℕ)) (old new : Counts) (limit : ℕ) (r : Result (Vec ℕ Global) E) → IfOk r (λ v. (b : List ℕ) → Had known limit b → v.items ≡ b)
    → IfOk r (λ v. IsReadWhole old new left limit (vec_len v)) → IfOk r (λ v. IsRead known limit v.items)
if_read known left old new limit (Ok v) taken whole = is_read known left old new limit v taken whole
if_read known left old new limit (Err e) taken whole = tt

pub front_written : (task : Task) (b t : List ℕ) (old new : Option (List ℕ)) (text shown : List ℕ) (status : ℕ) → text ≡ shown → Tells task.action b t task.policy shown status
    → (n : ℕ) × (n < length text) × Appends old new (take n text) → WritesFront task b t old new
front_written task b t old new text shown status e tells f = record {
  text = shown;
  status = status;
  tells = tells;
  count = f.0;
  some_left = subst (λ x. f.0 < length x) e f.1;
  written = subst (λ x. Appends old new (take f.0 x)) e f.2;
}
