-- What is gained, piece by piece.
use Rattle.std.proofs.Common.{◌≡◌, ℕ, max, Bool, true, false, ◌||◌, List, [], ◌++◌, refl, ◌∙◌, ap, arith}
use Rattle.std.specs.List.{filter}
use Rattle.std.specs.Str.{bytes_eq}
use Rattle.std.proofs.Math.Path.{fun_ext}
use Rattle.std.proofs.lemmas.List.Elements.{filter-append}
use Rattle.std.proofs.lemmas.List.Folds.{list_any-append}
use Rattle.sh_tree.specs.standard.program.Syntax.{Text}
use Rattle.sh_runs.specs.standard.runs.Environment.{is_one_of}
use Rattle.sh_domain.specs.Facts.{Facts, NotReached, Known}
use Rattle.sh_domain.specs.Gains.{Gains, no_gains, named, and_gains, with_gains}
use Rattle.sh_domain.specs.Knowledge as knowledge
use Rattle.sh_domain.specs.Knowledge.{knowledge_facts}
use Rattle.sh_domain.specs.declared.knowledge.Knowledge.{Knowledge}
use Rattle.sh_domain.proofs.KnownNameLemmas.{names_suffice}
use Rattle.sh_gains.specs.Knowing.{Knowing, among, gained}

known_same : (v w f : Text → Bool) (a b : ℕ) → ((x : Text) → v x ≡ w x) → a ≡ b → Known v f a ≡ Known w f b
known_same v w f a b p e = let vars = fun_ext p in cc

pub knowing_same : (ns : List Text) (f g : Facts) → f ≡ g → (let k : Knowing = record { names = ns; facts = f } in k) ≡ record { names = ns; facts = g }
knowing_same ns f g e = ap (λ (x : Facts). let k : Knowing = record { names = ns; facts = x } in k) e

turned : (a b c : Bool) → ((a || b) || c) ≡ (b || (a || c))
turned true true c = refl
turned true false c = refl
turned false b c = refl

with_none : (ns : List Text) (f : Facts) → with_gains (among ns no_gains) f ≡ f
unfolding with_gains
with_none ns NotReached = refl
with_none ns (Known v f a) = known_same (λ x. v x) v f (max a 0) a (λ x. refl) (omega arith)

with_both : (ns : List Text) (g h : Gains) (f : Facts) → with_gains (among ns (and_gains g h)) f ≡ with_gains (among ns h) (with_gains (among ns g) f)
unfolding with_gains
with_both ns g h NotReached = refl
with_both ns g h (Known v f a) =
    known_same _ _ f (max a (max g.args h.args)) (max (max a g.args) h.args)
    (λ x. ap (λ xs. is_one_of xs x || v x) (filter-append (is_one_of ns) g.names h.names)
    ∙ ap (λ (b : Bool). b || v x) (list_any-append (λ n. bytes_eq n x) (filter (is_one_of ns) g.names) (filter (is_one_of ns) h.names))
    ∙ turned (is_one_of (filter (is_one_of ns) g.names) x) (is_one_of (filter (is_one_of ns) h.names) x) (v x))
    (omega arith)

-- where nothing is gained nothing changes
pub gained_none : (k : Knowing) → gained no_gains k ≡ k
unfolding gained
gained_none k = knowing_same k.names (with_gains (among k.names no_gains) k.facts) k.facts (with_none k.names k.facts)

-- one gain after another
pub gained_both : (g h : Gains) (k : Knowing) → gained (and_gains g h) k ≡ gained h (gained g k)
unfolding gained
gained_both g h k = knowing_same k.names _ _ (with_both k.names g h k.facts)

pub named_both : (xs ys : List Text) (k : Knowing) → gained (named (xs ++ ys)) k ≡ gained (named ys) (gained (named xs) k)
named_both xs ys k = gained_both (named xs) (named ys) k

-- a gain of what is known of numbered names
pub name_gained : (ns : List Text) (k l : Knowledge) (g : Gains) → knowledge_facts ns l ≡ knowledge.among ns (with_gains g (knowledge_facts ns k))
    → (let x : Knowing = record { names = ns; facts = knowledge_facts ns l } in x) ≡ gained g (record { names = ns; facts = knowledge_facts ns k })
unfolding gained
name_gained ns k l g h = knowing_same ns _ _ (h ∙ names_suffice.told ns k g)

pub parameters_gained : (ns : List Text) (k l : Knowledge) (n : ℕ) → knowledge_facts ns l ≡ with_gains (record { names = []; args = n }) (knowledge_facts ns k)
    → (let x : Knowing = record { names = ns; facts = knowledge_facts ns l } in x) ≡ gained (record { names = []; args = n }) (record { names = ns; facts = knowledge_facts ns k })
unfolding gained
parameters_gained ns k l n h = knowing_same ns _ _ h
