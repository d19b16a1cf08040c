-- What is known at the start is what is stated, or what is declared.
use Rattle.std.proofs.Common.{◌≡◌, Bool, true, false, List, refl, sym, ap, ◌∙◌, true≢false}
use Rattle.std.proofs.lemmas.Bool.{and_parts}
use Rattle.sh_tree.specs.standard.language.Bytes.{is_name}
use Rattle.sh_tree.specs.standard.program.Syntax.{Text}
use Rattle.sh_domain.specs.declared.compact.Compact.{Compact}
use Rattle.sh_domain.specs.declared.knowledge.Knowledge.{Knowledge}
use Rattle.sh_domain.specs.Certificates.{in_byte_order}
use Rattle.sh_domain.specs.Compacts.{compact_claims}
use Rattle.sh_domain.specs.Facts.{Claim, Unreached, Claimed, Declared, facts, start_facts}
use Rattle.sh_domain.specs.Knowledge.{among, knowledge_facts}
use Rattle.sh_domain.specs.Spelling.{is_writable}
use Rattle.sh_domain.proofs.KnownNameLemmas.{names_suffice}
use Rattle.sh_domain.proofs.OrderLemmas.{among_all}
use Rattle.sh_drafts.specs.declared.subject.Subject.{Subject}
use Rattle.sh_drafts.specs.Functions.{KnowsNames}
use Rattle.sh_drafts.specs.Starts.{start_by, start_of}

pub stated_start : (s : Subject) → s.stated ≡ true → start_of s ≡ facts (compact_claims (in_byte_order s.names.now) s.compact.now).start
unfolding start_by
stated_start s e = ap (λ b. start_by b s.names.now s.policy.now s.compact.now) e

pub declared_start : (s : Subject) → s.stated ≡ false → start_of s ≡ start_facts s.policy.now
unfolding start_by
declared_start s e = ap (λ b. start_by b s.names.now s.policy.now s.compact.now) e

-- what is claimed of the start by a kept fact is known of the names alone
pub claims_start : (s : Subject) (k : Knowledge) → s.stated ≡ true → knowledge_facts s.names.now k ≡ facts (compact_claims (in_byte_order s.names.now) s.compact.now).start
    → knowledge_facts s.names.now k ≡ among s.names.now (start_of s)
claims_start s k e is = sym (names_suffice.known s.names.now k) ∙ ap (among s.names.now) (is ∙ sym (stated_start s e))

pub declares_start : (s : Subject) (k : Knowledge) → s.stated ≡ false → knowledge_facts s.names.now k ≡ among s.names.now (start_facts s.policy.now)
    → knowledge_facts s.names.now k ≡ among s.names.now (start_of s)
declares_start s k e is = is ∙ ap (among s.names.now) (sym (declared_start s e))

-- Each function that is known there has a name

writable_knows : (c : Claim) → is_writable c ≡ true → KnowsNames (facts c)
unfolding is_writable facts KnowsNames
writable_knows Unreached e = tt
writable_knows (Claimed vars functions args) e = among_all is_name functions (and_parts _ _ (and_parts _ _ (and_parts _ _ e).0).1).0

declared_knows : (d : Declared) → KnowsNames (start_facts d)
unfolding start_facts KnowsNames
declared_knows d = λ x e. absurd (true≢false (sym e))

knows_by : (stated : Bool) (names : List Text) (d : Declared) (k : Compact) → (stated ≡ true → is_writable (compact_claims (in_byte_order names) k).start ≡ true) → KnowsNames (start_by stated names d k)
unfolding start_by
knows_by false names d k h = declared_knows d
knows_by true names d k h = writable_knows _ (h refl)

pub start_knows : (s : Subject) → KnowsNames (start_of s)
start_knows s = knows_by s.stated s.names.now s.policy.now s.compact.now s.started
