-- What is known after a call of a function, whether or not the certificate has it.
use Rattle.std.proofs.Common.{◌≡◌, ℕ, Bool, true, false, not, ◌&&◌, ◌||◌, if◌then◌else◌, List, drop, codes, refl, sym, ap, ap₂, ◌∙◌}
use Rattle.std.specs.Str.{bytes_eq}
use Rattle.sh_tree.specs.declared.tree.Element.{Element}
use Rattle.sh_tree.specs.Lists.{elements_from}
use Rattle.sh_tree.specs.standard.program.Syntax.{Text}
use Rattle.sh_runs.specs.standard.runs.Environment.{is_one_of}
use Rattle.sh_domain.specs.declared.knowledge.Knowledge.{Knowledge}
use Rattle.sh_domain.specs.declared.knowledge.Knowledge.TheVariants as knowledge
use Rattle.sh_domain.specs.declared.number_set.NumberSet.{NumberSet}
use Rattle.sh_domain.specs.declared.knowledge.Return.{Return}
use Rattle.sh_domain.specs.Certificates.{claim_of, drops_of, in_byte_order}
use Rattle.sh_domain.specs.Facts.{Facts, NotReached, Known, Function, claims, facts}
use Rattle.sh_domain.specs.Gains.{named}
use Rattle.sh_domain.specs.Knowledge.{AreNumbered, among, contains, knowledge_facts}
use Rattle.sh_domain.specs.Operands.{no_names, total}
use Rattle.sh_domain.specs.Table.{operands, prefixes}
use Rattle.sh_domain.specs.Views as views
use Rattle.sh_domain.specs.Views.{Certificate, Slot, Count, step, where_known, returned}
use Rattle.sh_domain.proofs.KnowledgeLemmas.{either_with, either_without}
use Rattle.sh_domain.proofs.KnownNameLemmas.{names_suffice}
use Rattle.sh_domain.proofs.MeetLemmas.{known_same}
use Rattle.sh_rules.specs.declared.claims.Claims.{Claims}
use Rattle.sh_rules.specs.Calls.{IsReturn, IsUnknown, passed}
use Rattle.sh_rules.specs.Calls as spec
use Rattle.sh_rules.specs.Losses.{variable_lost}
use Rattle.sh_rules.specs.Settings.{Setting, certificate, gained}
use Rattle.sh_rules.specs.SimpleBounds.{stepped, called}
use Rattle.sh_rules.specs.TextBounds.{behind_name}
use Rattle.sh_rules.specs.Walks.{facts_in, setting}

pub entered : (x : Setting) (es ds : List Element) (k f g : Facts) → ((b : List ℕ) → operands (elements_from b ds) ≡ behind_name (elements_from b es))
    → f ≡ stepped x (Count (total (drop 0 (operands (elements_from x.script ds))))) k
    → g ≡ gained x (named (prefixes (elements_from x.script es))) f
    → g ≡ spec.entered x (elements_from x.script es) k
unfolding spec.entered
entered x es ds k f g h a b =
    let ps = elements_from x.script es in
    b ∙ ap (gained x (named (prefixes ps))) (a ∙ ap (λ ws. stepped x (Count (total ws)) k) (h x.script))

-- facts of numbered names stay so

named_facts : (x : Setting) (l : Knowledge) (k : Facts) → facts_in x l ≡ k → facts_in x l ≡ among x.names k
unfolding facts_in
named_facts x l k h = sym (names_suffice.known x.names l) ∙ ap (among x.names) h

-- of a function that the certificate does not have

call_of_nothing : (f : Text) (ps : List Text) (k : Facts) → claims k (Function f) ≡ true → views.called no_names NotReached f ps k ≡ NotReached
unfolding views.called where_known claims returned
call_of_nothing f ps NotReached h = refl
call_of_nothing f ps (Known v g a) h = ap (λ b. if b then returned no_names ps NotReached v g a else views.left no_names f v g a) h

and_true : (b : Bool) → (b && true) ≡ b
and_true true = refl
and_true false = refl

passed_there : (x : Setting) (f : Text) (v g : Text → Bool) (a : ℕ) (b : Bool) → bytes_eq f (codes "getopts") ≡ b
    → (if b then variable_lost x (Known v g a) (codes "OPTARG") else Known v g a) ≡ views.left no_names f v g a
unfolding variable_lost stepped step where_known
passed_there x f v g a true h =
    known_same _ _ _ _ _ _
    (λ t. either_with f t (v t) (v t && not (bytes_eq (codes "OPTARG") t || false)) (v t && true) h (sameness (v t) (bytes_eq (codes "OPTARG") t)) (sym (and_true (v t))))
    (λ t. refl) refl
  where
    sameness : (b c : Bool) → (b && not (c || false)) ≡ (b && not c)
    sameness b true = refl
    sameness b false = refl
passed_there x f v g a false h =
    known_same _ _ _ _ _ _
    (λ t. either_without f t (v t) (v t) (v t && true) h refl (sym (and_true (v t))))
    (λ t. sym (and_true (g t))) refl

call_passed : (x : Setting) (f : Text) (ps : List Text) (k : Facts) → claims k (Function f) ≡ false → passed x f k ≡ views.called no_names NotReached f ps k
unfolding passed views.called where_known claims
call_passed x f ps NotReached h = cc
call_passed x f ps (Known v g a) h =
    passed_there x f v g a (bytes_eq f (codes "getopts")) refl ∙ sym (ap (λ b. if b then returned no_names ps NotReached v g a else views.left no_names f v g a) h)

step_unknown : (x : Setting) (f : Text) (r : Slot) (ps : List Text) (k : Facts) → IsUnknown x f r
    → views.called no_names NotReached f ps k ≡ step (certificate x) (views.Call f r ps) k
unfolding step facts
step_unknown x f r ps k u = ap₂ (λ d c. views.called d (facts c) f ps k) (sym u.drops) (sym u.claim)

nothing : (x : Setting) → facts_in x knowledge.NotReached ≡ NotReached
unfolding facts_in knowledge_facts
nothing x = refl

pub unknown_defined : (c : Claims) (f : Text) (r : Slot) (ps : List Text) (old : Knowledge) → true ≡ claims (knowledge_facts c.names.now old) (Function f) → IsUnknown (setting c) f r
    → facts_in (setting c) knowledge.NotReached ≡ called (setting c) f r ps (facts_in (setting c) old)
unfolding facts_in setting called
unknown_defined c f r ps old h u =
    let x = setting c in
    named_facts x knowledge.NotReached (step (certificate x) (views.Call f r ps) (facts_in x old))
    (nothing x ∙ sym (call_of_nothing f ps (facts_in x old) (sym h)) ∙ step_unknown x f r ps (facts_in x old) u)

pub unknown_passed : (c : Claims) (f : Text) (r : Slot) (ps : List Text) (old new : Knowledge) → false ≡ claims (knowledge_facts c.names.now old) (Function f) → IsUnknown (setting c) f r
    → facts_in (setting c) new ≡ passed (setting c) f (facts_in (setting c) old)
    → facts_in (setting c) new ≡ called (setting c) f r ps (facts_in (setting c) old)
unfolding facts_in setting called
unknown_passed c f r ps old new h u e =
    let x = setting c in
    named_facts x new (step (certificate x) (views.Call f r ps) (facts_in x old))
    (e ∙ call_passed x f ps (facts_in x old) (sym h) ∙ step_unknown x f r ps (facts_in x old) u)

-- of one that it has

pub returned_known : (c : Claims) (f : Text) (r : Slot) (ret : Return) (ps : List Text) (old new : Knowledge) (set : NumberSet)
    → AreNumbered c.names.now → IsReturn (setting c) f r ret
    → ((t : Text) → is_one_of (setting c).names t ≡ true → contains (setting c).names set t ≡ is_one_of ps t)
    → ((d : Certificate) (s : Slot) (before : List Text) → AreNumbered c.names.now
    → d.drops f ≡ drops_of (in_byte_order c.names.now) c.certificate.now.rows ret.drops
    → d.claim s ≡ claim_of (in_byte_order c.names.now) c.certificate.now.rows ret.facts
    → ((t : Text) → is_one_of c.names.now t ≡ true → contains c.names.now set t ≡ is_one_of before t)
    → knowledge_facts c.names.now new ≡ step d (views.Call f s before) (knowledge_facts c.names.now old))
    → facts_in (setting c) new ≡ called (setting c) f r ps (facts_in (setting c) old)
unfolding facts_in setting called
returned_known c f r ret ps old new set n is held h =
    let x = setting c in
    named_facts x new (step (certificate x) (views.Call f r ps) (facts_in x old)) (h (certificate x) r ps n is.drops is.claim held)
