-- A sweep over the commands of a script stays above each certificate that keeps the rules.
use Rattle.std.proofs.Common.{◌≡◌, ℕ, ◌≤◌, Bool, true, false, List, ◌++◌, append_assoc, length, refl, sym, ap, ◌∙◌, subst, arith}
use Rattle.sh_domain.specs.declared.certificate.Certificate as kept
use Rattle.sh_domain.specs.Entries.{Entered}
use Rattle.sh_domain.specs.Knowledge.{AreNumbered}
use Rattle.sh_domain.specs.Sheets.{Sheet}
use Rattle.sh_domain.specs.Views.{After}
use Rattle.sh_rules.specs.Behind.{Behind}
use Rattle.sh_rules.proofs.AboveLemmas.{above}
use Rattle.sh_rules.proofs.LedLemmas as led
use Rattle.sh_rules.proofs.LedLemmas.{Follows}
use Rattle.sh_domain.specs.Admitted.{claims_in, functions_in}
use Rattle.sh_runs.specs.Calls.{Table, table_of}
use Rattle.sh_tree.specs.declared.tree.Script.{Script}
use Rattle.sh_rules.specs.declared.claims.Claims.{Claims}
use Rattle.sh_rules.specs.Walks.{setting}
use Rattle.sh_drafts.specs.declared.subject.Subject.{Subject}
use Rattle.sh_sweeps.specs.Sweeps.{setting_by, Knows, KnowsBehind, IsPart}
use Rattle.sh_drafts.specs.Ready.{Keeps, IsOver, IsReady, IsSwept}
use Rattle.sh_drafts.specs.Gathered.{Gathered}
use Rattle.sh_drafts.specs.Turns.{IsQuiet, IsSunk, Stands}
use Rattle.sh_drafts.specs.Working.{IsWorking, height}
use Rattle.sh_drafts.specs.Starts.{start_of}
use Rattle.sh_drafts.proofs.ReadyLemmas.{names_numbered}

module _ (s : Subject) where
  -- Commands that are together

  pub first_part : (es fs : List Entered) → IsPart s (es ++ fs) → IsPart s es
  first_part es fs q = record { front = q.front; back = fs ++ q.back; whole = q.whole ∙ ap (λ gs. q.front ++ gs) (append_assoc es fs q.back) }

  pub last_part : (es fs : List Entered) → IsPart s (es ++ fs) → IsPart s fs
  last_part es fs q = record {
    front = q.front ++ es;
    back = q.back;
    whole = q.whole ∙ ap (λ gs. q.front ++ gs) (append_assoc es fs q.back) ∙ sym (append_assoc q.front es (fs ++ q.back));
  }

  -- What is known follows what is seen

  pub knows_follow : (c : kept.Certificate) → AreNumbered s.names.now → IsOver s c → Follows (setting_by s c) (Knows s)
  knows_follow c h over = record {
    slot = λ p other keeps. (above (setting_by s c) h (start_of s) (claims_in s.script.now s.tree.now other) (over other keeps)).slot p;
    gain = λ g q k w other keeps. (above (setting_by s c) h (start_of s) (claims_in s.script.now s.tree.now other) (over other keeps)).gain g q k (w other keeps);
    gains = λ g j q k w other keeps. (above (setting_by s c) h (start_of s) (claims_in s.script.now s.tree.now other) (over other keeps)).gains g j q k (w other keeps);
    job = λ q k w other keeps. (above (setting_by s c) h (start_of s) (claims_in s.script.now s.tree.now other) (over other keeps)).job q k (w other keeps);
    joined = λ q r k l w v other keeps. (above (setting_by s c) h (start_of s) (claims_in s.script.now s.tree.now other) (over other keeps)).joined q r k l (w other keeps) (v other keeps);
    twice = λ q k l w v other keeps. (above (setting_by s c) h (start_of s) (claims_in s.script.now s.tree.now other) (over other keeps)).twice q k l (w other keeps) (v other keeps);
    nothing = λ other keeps. (above (setting_by s c) h (start_of s) (claims_in s.script.now s.tree.now other) (over other keeps)).nothing;
  }

  -- after a list
  pub stands_of : (o : After) (b : Behind) → KnowsBehind s o b → led.Stands (Knows s) o b
  stands_of o b k = record { zero = λ other keeps. (k other keeps).zero; nonzero = λ other keeps. (k other keeps).nonzero }

  pub behind_of : (o : After) (b : Behind) → led.Stands (Knows s) o b → KnowsBehind s o b
  behind_of o b t other keeps = record { zero = t.zero other keeps; nonzero = t.nonzero other keeps }

-- What a walk by the table of the script uses

pub setting_is : (c : Claims) (t : Script) → c.calls.now ≡ table_of c.script.now t
    → setting c ≡ record { script = c.script.now; names = c.names.now; functions = functions_in c.script.now t; rows = (table_of c.script.now t).rows; kept = c.certificate.now }
unfolding setting
setting_is c t table = ap (λ (y : Table). record { script = c.script.now; names = c.names.now; functions = y.functions.names; rows = y.rows; kept = c.certificate.now }) table

-- What is lowered by what was gathered

pub sunk_swept : (s : Subject) (old new : kept.Certificate) (g : Gathered) (changed : Bool) (n k : ℕ) → IsReady s old n
    → ((loops : List Bool) (m : ℕ) → IsWorking s.names.now loops m old → IsSunk s.names.now loops m old new g changed) → ((other : Sheet) → Keeps s other → Stands s.names.now other g) → (s.stated ≡ true → IsQuiet g) → k ≡ length s.names.now → IsSwept s old new k
sunk_swept s old new g changed n k r sunk stand quiet probe =
    let h = names_numbered s old n r in
    let one = sunk r.loops r.functions r.working in
    record {
      working = λ loops m w. (sunk loops m w).working;
      no_more = λ loops m w. lower loops m (sunk loops m w) changed refl;
      over = λ other keeps. one.above h (functions_in s.script.now s.tree.now) other (stand other keeps) (r.over other keeps);
      stays = λ e. one.stated (quiet e);
      probe = probe;
    }
  where
    same : (h : ℕ) → h ≤ h
    same h = omega arith

    lower : (loops : List Bool) (m : ℕ) (i : IsSunk s.names.now loops m old new g changed) (x : Bool) → changed ≡ x
        → height (length s.names.now) (length loops) m new ≤ height (length s.names.now) (length loops) m old
    lower loops m i true e = let l = i.less e in omega (arith, l)
    lower loops m i false e = subst (λ c. height (length s.names.now) (length loops) m new ≤ height (length s.names.now) (length loops) m c) (i.stays e) (same _)
