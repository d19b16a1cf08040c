-- What is found is the greatest certificate.
use Rattle.std.proofs.Common.{◌≡◌, ℕ, ◌+◌, ◌<◌, ◌≤◌, cond, Bool, true, false, Option, List, [], length, refl, sym, subst, arith, flat_map, true≢false}
use Rattle.sh_tree.specs.declared.tree.Script.{Script}
use Rattle.sh_tree.specs.standard.program.Syntax.{Text}
use Rattle.sh_tree.specs.standard.program.Trees.{script_of}
use Rattle.sh_domain.specs.declared.certificate.Certificate as kept
use Rattle.sh_domain.specs.Facts.{Declared, start_facts}
use Rattle.sh_domain.specs.Faults.{faults, broken}
use Rattle.sh_domain.specs.Names.{are_distinct}
use Rattle.sh_domain.specs.Order.{IsBelow}
use Rattle.sh_domain.specs.Reading.{AreLoops, claim_fits}
use Rattle.sh_domain.specs.Sheets.{Sheet}
use Rattle.sh_domain.proofs.RoundTripLemmas.{written_reads_back}
use Rattle.sh_domain.specs.Admitted.{IsAdmitted, claims_in, functions_in, IsGreatest}
use Rattle.sh_drafts.specs.declared.place.Place.{Place}
use Rattle.sh_drafts.specs.Places.{claim_there}
use Rattle.sh_drafts.specs.Turns.{sheet_by, IsTurn, StatedStays}
use Rattle.sh_drafts.specs.Working.{IsWorking, height}
use Rattle.sh_drafts.proofs.SheetLemmas.{fits_there, has_text, known_there}
use Rattle.sh_drafts.specs.declared.subject.Subject.{Subject}
use Rattle.sh_drafts.specs.Ready.{asked_of, IsOver, IsReady, IsSettled, IsSwept}
use Rattle.sh_drafts.specs.Starts.{start_of}
use Rattle.sh_drafts.proofs.ReadyLemmas.{numbered, stays_more, stays_none}

-- Turns one after the other

-- how much is left to lower, and a last turn
abbrev pub left : List Text → kept.Certificate → Bool → ℕ
left names c done = cond done 0 (height (length names) (length c.entries.items) (length c.functions.items) c + 1)

module _ (names : List Text) (loops : List Bool) (m : ℕ) where
  pub heights : (c : kept.Certificate) → IsWorking names loops m c → height (length names) (length c.entries.items) (length c.functions.items) c ≡ height (length names) (length loops) m c
  heights c w = rw (w.commands, w.defined) refl

  pub less_left : (mid new : kept.Certificate) (before done : Bool) → before ≡ false → IsWorking names loops m mid → IsWorking names loops m new
      → (done ≡ false → height (length names) (length loops) m new < height (length names) (length loops) m mid) → left names new done < left names mid before
  less_left mid new before done e w v less = subst (λ x. left names new done < left names mid x) (sym e) (go done refl)
    where
      go : (x : Bool) → done ≡ x → left names new done < left names mid false
      go true is = rw is (omega arith)
      go false is = rw is (let l = less is in let a = heights new v in let z = heights mid w in omega (arith, l, a, z))

module _ (s : Subject) where
  -- the certificate so far, which keeps all rules where that is done
  pub record IsTurned (old new : kept.Certificate) (probed : ℕ) (done : Bool) : Type 0 where
    pub working : (loops : List Bool) (m : ℕ) → IsWorking s.names.now loops m old → IsWorking s.names.now loops m new
    pub over : IsOver s new
    pub probe : probed ≡ length s.names.now
    pub stays : s.stated ≡ true → StatedStays old new
    pub rules : done ≡ true → flat_map (broken (start_of s) (claims_in s.script.now s.tree.now (sheet_by s.names.now new))) (asked_of s) ≡ []

  abbrev Turns : List Bool → ℕ → kept.Certificate → kept.Certificate → Bool → Type 0
  Turns loops m old new done = IsTurn s.names.now loops m (start_of s) (functions_in s.script.now s.tree.now) s.stated (asked_of s) old new done

  pub turned_more : (old mid swept new : kept.Certificate) (n h k l : ℕ) (was done : Bool) → IsReady s old n → IsTurned old mid h was → IsSwept s mid swept k
      → ((loops : List Bool) (m : ℕ) → IsWorking s.names.now loops m swept → Turns loops m swept new done) → l ≡ length s.names.now → IsTurned old new l done
  turned_more old mid swept new n h k l was done r t w turn probe =
      let first = turn r.loops r.functions (w.working r.loops r.functions (t.working r.loops r.functions r.working)) in
      record {
        working = λ loops m is. (turn loops m (w.working loops m (t.working loops m is))).working;
        over = λ other keeps. first.above other keeps.fit keeps.rules (w.over other keeps);
        stays = λ e. stays_more s old swept new (stays_more s old mid swept (t.stays e) (w.stays e)) (first.stays e);
        probe = probe;
        rules = first.rules;
      }

  pub turned_none : (c : kept.Certificate) (n : ℕ) → IsReady s c n → IsTurned c c n false
  turned_none c n r = record { working = λ loops m w. w; over = r.over; stays = λ e. stays_none s c; probe = r.probe; rules = λ e. absurd (true≢false (sym e)) }

  -- a turn after a sweep lowers
  pub swept_less : (loops : List Bool) (m : ℕ) (old mid new : kept.Certificate) (n : ℕ) (done : Bool) → IsWorking s.names.now loops m old → IsSwept s old mid n → Turns loops m mid new done
      → done ≡ false → height (length s.names.now) (length loops) m new < height (length s.names.now) (length loops) m old
  swept_less loops m old mid new n done working w t e = let l = t.less e in let k = w.no_more loops m working in omega (arith, l, k)

  pub settled : (loops : List Bool) (m : ℕ) (old new : kept.Certificate) (n : ℕ) (done : Bool) → done ≡ true → IsTurned old new n done → IsWorking s.names.now loops m old → IsSettled s loops m old new
  settled loops m old new n done e t w = record { working = t.working loops m w; rules = t.rules e; over = t.over; stays = t.stays }

-- The greatest one

module _ (b : List ℕ) (d : Declared) (t : Script) (names : List Text) (admitted : IsAdmitted b d t names) (loops : List Bool) (are_loops : AreLoops t loops) where
  abbrev defined : List Text
  defined = functions_in b t

  -- it keeps the rules, and stays above each other one of these names that does
  pub is_greatest : (m : ℕ) → m ≡ length defined → (c : kept.Certificate) → IsWorking names loops m c → faults (start_facts d) (claims_in b t (sheet_by names c)) (script_of b t) ≡ []
      → ((other : Sheet) → ((o : Option Place) → claim_fits names (claim_there other o) ≡ true) → faults (start_facts d) (claims_in b t other) (script_of b t) ≡ [] → IsBelow (claims_in b t other) (claims_in b t (sheet_by names c)))
      → are_distinct names ≡ true → length loops ≤ 65535 → m ≤ 65535 → IsGreatest b d t names (sheet_by names c)
  is_greatest m e c working rules above distinct few some =
      let h = numbered b d t names admitted in
      let own = subst (λ n. IsWorking names loops n c) e working in
      record {
        fit = record { loops = loops; are_loops = are_loops; fit = fits_there names h loops (length defined) c own };
        rules = rules;
        above = λ other fit keeps. above other (known_there names fit.loops (length defined) other fit.fit) keeps;
        spelled = written_reads_back.rising names c (has_text names h loops (length defined) c own distinct few (subst (λ n. n ≤ 65535) e some));
      }
