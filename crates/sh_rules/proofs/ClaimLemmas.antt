-- What is claimed at each place, as the fact that the certificate keeps of it.
use Rattle.std.proofs.Common.{◌≡◌, ℕ, ◌-◌, Bool, length, Option, Some, None, List, option_map, slice_get, unwrap_or, sym, ap, ◌∙◌}
use Rattle.sh_tree.specs.standard.program.Syntax.{Text}
use Rattle.sh_domain.specs.declared.certificate.Entry.{Entry}
use Rattle.sh_domain.specs.declared.certificate.Facts as value
use Rattle.sh_domain.specs.declared.certificate.Facts.TheVariants as value_kind
use Rattle.sh_domain.specs.declared.certificate.FunctionEntry.{FunctionEntry}
use Rattle.sh_domain.specs.declared.knowledge.Knowledge.{Knowledge}
use Rattle.sh_domain.specs.Certificates.{claim_of, in_byte_order}
use Rattle.sh_domain.specs.Facts.{Claim, Unreached, facts, within}
use Rattle.sh_domain.specs.Knowledge.{AreNumbered, knowledge_facts}
use Rattle.sh_domain.specs.Slots.{entry_of}
use Rattle.sh_domain.specs.Views.{Slot, Before, AfterZero, AfterNonzero, Head, Entry as Entered, ReturnsZero, ReturnsNonzero}
use Rattle.sh_rules.specs.declared.claims.Claims.{Claims}
use Rattle.sh_rules.specs.Settings.{Setting, claimed_at, known_at}
use Rattle.sh_rules.specs.Walks.{facts_in, head_of, setting}
use Rattle.sh_rules.specs.Tells.{claim_in}
use Rattle.sh_rules.proofs.SlotLemmas.{entries, head_claim}

some_claims : {E : Type 0} (f : E → Claim) (o : Option E) (e : E) (c : Claim) → c ≡ unwrap_or (option_map f o) Unreached → o ≡ Some e → f e ≡ c
some_claims f o e c h s = sym (h ∙ ap (λ p. unwrap_or (option_map f p) Unreached) s)

none_claims : {E : Type 0} (f : E → Claim) (o : Option E) (c : Claim) → c ≡ unwrap_or (option_map f o) Unreached → o ≡ None → Unreached ≡ c
none_claims f o c h s = sym (h ∙ ap (λ p. unwrap_or (option_map f p) Unreached) s)

pub before_there : (x : Setting) (n : ℕ) (e : Entry) → slice_get x.kept.entries.items (n - 1) ≡ Some e → claim_in x e.before ≡ claimed_at x (Before n)
unfolding claim_in claimed_at
before_there x n e s = some_claims (λ (d : Entry). claim_in x d.before) (slice_get x.kept.entries.items (n - 1)) e _ ((entries x).before n) s

pub before_away : (x : Setting) (n : ℕ) → slice_get x.kept.entries.items (n - 1) ≡ None → claim_in x value_kind.NotReached ≡ claimed_at x (Before n)
unfolding claim_in claimed_at claim_of
before_away x n s = none_claims (λ (d : Entry). claim_in x d.before) (slice_get x.kept.entries.items (n - 1)) _ ((entries x).before n) s

pub zero_there : (x : Setting) (n : ℕ) (e : Entry) → slice_get x.kept.entries.items (n - 1) ≡ Some e → claim_in x e.zero ≡ claimed_at x (AfterZero n)
unfolding claim_in claimed_at
zero_there x n e s = some_claims (λ (d : Entry). claim_in x d.zero) (slice_get x.kept.entries.items (n - 1)) e _ ((entries x).zero n) s

pub zero_away : (x : Setting) (n : ℕ) → slice_get x.kept.entries.items (n - 1) ≡ None → claim_in x value_kind.NotReached ≡ claimed_at x (AfterZero n)
unfolding claim_in claimed_at claim_of
zero_away x n s = none_claims (λ (d : Entry). claim_in x d.zero) (slice_get x.kept.entries.items (n - 1)) _ ((entries x).zero n) s

pub nonzero_there : (x : Setting) (n : ℕ) (e : Entry) → slice_get x.kept.entries.items (n - 1) ≡ Some e → claim_in x e.nonzero ≡ claimed_at x (AfterNonzero n)
unfolding claim_in claimed_at
nonzero_there x n e s = some_claims (λ (d : Entry). claim_in x d.nonzero) (slice_get x.kept.entries.items (n - 1)) e _ ((entries x).nonzero n) s

pub nonzero_away : (x : Setting) (n : ℕ) → slice_get x.kept.entries.items (n - 1) ≡ None → claim_in x value_kind.NotReached ≡ claimed_at x (AfterNonzero n)
unfolding claim_in claimed_at claim_of
nonzero_away x n s = none_claims (λ (d : Entry). claim_in x d.nonzero) (slice_get x.kept.entries.items (n - 1)) _ ((entries x).nonzero n) s

pub head_there : (x : Setting) (n : ℕ) (f : value.Facts) → head_of x.kept n ≡ Some f → claim_in x f ≡ claimed_at x (Head n)
unfolding claim_in
head_there x n f s = some_claims (claim_in x) (head_of x.kept n) f _ (head_claim x n) s

pub head_away : (x : Setting) (n : ℕ) → head_of x.kept n ≡ None → claim_in x value_kind.NotReached ≡ claimed_at x (Head n)
unfolding claim_in claim_of
head_away x n s = none_claims (claim_in x) (head_of x.kept n) _ (head_claim x n) s

pub entry_there : (x : Setting) (f : Text) (e : FunctionEntry) → entry_of x.kept x.functions f ≡ Some e → claim_in x e.before ≡ claimed_at x (Entered f)
unfolding claim_in claimed_at
entry_there x f e s = some_claims (λ (d : FunctionEntry). claim_in x d.before) (entry_of x.kept x.functions f) e _ ((entries x).entered f) s

pub entry_away : (x : Setting) (f : Text) → entry_of x.kept x.functions f ≡ None → claim_in x value_kind.NotReached ≡ claimed_at x (Entered f)
unfolding claim_in claimed_at claim_of
entry_away x f s = none_claims (λ (d : FunctionEntry). claim_in x d.before) (entry_of x.kept x.functions f) _ ((entries x).entered f) s

pub return_zero_there : (x : Setting) (f : Text) (e : FunctionEntry) → entry_of x.kept x.functions f ≡ Some e → claim_in x e.zero ≡ claimed_at x (ReturnsZero f)
unfolding claim_in claimed_at
return_zero_there x f e s = some_claims (λ (d : FunctionEntry). claim_in x d.zero) (entry_of x.kept x.functions f) e _ ((entries x).returns_zero f) s

pub return_zero_away : (x : Setting) (f : Text) → entry_of x.kept x.functions f ≡ None → claim_in x value_kind.NotReached ≡ claimed_at x (ReturnsZero f)
unfolding claim_in claimed_at claim_of
return_zero_away x f s = none_claims (λ (d : FunctionEntry). claim_in x d.zero) (entry_of x.kept x.functions f) _ ((entries x).returns_zero f) s

pub return_nonzero_there : (x : Setting) (f : Text) (e : FunctionEntry) → entry_of x.kept x.functions f ≡ Some e → claim_in x e.nonzero ≡ claimed_at x (ReturnsNonzero f)
unfolding claim_in claimed_at
return_nonzero_there x f e s = some_claims (λ (d : FunctionEntry). claim_in x d.nonzero) (entry_of x.kept x.functions f) e _ ((entries x).returns_nonzero f) s

pub return_nonzero_away : (x : Setting) (f : Text) → entry_of x.kept x.functions f ≡ None → claim_in x value_kind.NotReached ≡ claimed_at x (ReturnsNonzero f)
unfolding claim_in claimed_at claim_of
return_nonzero_away x f s = none_claims (λ (d : FunctionEntry). claim_in x d.nonzero) (entry_of x.kept x.functions f) _ ((entries x).returns_nonzero f) s

-- what is known where a kept fact is claimed

pub claim_known : (c : Claims) (s : Slot) (f : value.Facts) (k : Knowledge) → AreNumbered c.names.now → claim_in (setting c) f ≡ claimed_at (setting c) s
    → ((names : List Text) → AreNumbered names → knowledge_facts names k ≡ facts (claim_of (in_byte_order names) c.certificate.now.rows f)) → facts_in (setting c) k ≡ known_at (setting c) s
unfolding claim_in claimed_at known_at facts_in setting
claim_known c s f k h e held = held c.names.now h ∙ ap facts e

-- whether a kept fact is known

pub claim_tested : (c : Claims) (f : value.Facts) (k : Knowledge) (b : Bool) → AreNumbered c.names.now → c.certificate.now.rows.count ≡ length c.names.now
    → ((names : List Text) → AreNumbered names → c.certificate.now.rows.count ≡ length names → b ≡ within (claim_of (in_byte_order names) c.certificate.now.rows f) (knowledge_facts names k))
    → b ≡ within (claim_in (setting c) f) (facts_in (setting c) k)
unfolding claim_in facts_in setting
claim_tested c f k b h sized test = test c.names.now h sized
