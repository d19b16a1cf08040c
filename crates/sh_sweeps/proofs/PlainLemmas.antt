-- What is known is carried over an item that is a utility or assignments alone.
use Rattle.std.proofs.Common.{◌≡◌, ◌⊎◌, inl, inr, ℕ, ◌+◌, ◌-◌, ◌<◌, ◌≤◌, Bool, true, false, List, [], ◌∷◌, ◌++◌, append-nil, take, drop, get_or, Option, Some, None, length, refl, sym, ap, ◌∙◌, subst, arith, if◌then◌else◌, true≢false}
use Rattle.std.specs.List.{list_all}
use Rattle.std.proofs.lemmas.List.{get_or-drop, length-append, length-drop, length-take, take_more}
use Rattle.sh_tree.specs.declared.tree.AndOr.{AndOr, out-AndOr}
use Rattle.sh_tree.specs.declared.tree.Command.{Command, out-Command}
use Rattle.sh_tree.specs.declared.tree.Element.{Element, Assignment', Word', Redirection'}
use Rattle.sh_tree.specs.declared.tree.Item.{Item, out-Item}
use Rattle.sh_tree.specs.declared.tree.Pipe.{out-Pipe}
use Rattle.sh_tree.specs.declared.tree.Span.{Span}
use Rattle.sh_tree.specs.standard.Tree.{text_of}
use Rattle.sh_tree.specs.standard.Words.{elements_of}
use Rattle.sh_tree.specs.Lists.{commands_from, element_from, elements_from, items_from, links_from, parts_from}
use Rattle.sh_tree.specs.standard.program.Syntax as p
use Rattle.sh_tree.specs.standard.program.Trees as trees
use Rattle.sh_tree.specs.standard.program.Words.{is_pattern, operands_in, part_text, redirects_in, static_of, word_text, words_in}
use Rattle.sh_tree.proofs.ProgramRules as rules
use Rattle.sh_runs.specs.standard.Kinds.{kind_of}
use Rattle.sh_runs.specs.standard.runs.Environment.{is_one_of}
use Rattle.sh_runs.specs.declared.kind.Kind.TheVariants as kind
use Rattle.sh_domain.specs.declared.certificate.Certificate as kept
use Rattle.sh_domain.specs.declared.knowledge.Knowledge.{Knowledge}
use Rattle.sh_domain.specs.declared.rule.FlowRule.{FlowRule}
use Rattle.sh_domain.specs.declared.rule.FlowRule.TheVariants.{F2}
use Rattle.sh_domain.specs.Admitted.{IsAdmitted, functions_in}
use Rattle.sh_domain.specs.Entries as e
use Rattle.sh_domain.specs.Entries.{Around}
use Rattle.sh_domain.specs.Facts.{Facts, meet}
use Rattle.sh_domain.specs.Gains.{Gains}
use Rattle.sh_domain.specs.Knowledge.{AreNumbered, knowledge_facts}
use Rattle.sh_domain.specs.Table.{Utility, assignments_gains, behind_words, is_redirected, manner, manner_of_name, manner_of_words}
use Rattle.sh_domain.specs.Views as views
use Rattle.sh_domain.specs.Views.{After, AfterNonzero, AfterZero, Both, Seen, after_command, at, gaining, if_nonzero, if_zero, swapped}
use Rattle.sh_domain.proofs.OrderLemmas.{meet_first, within_through}
use Rattle.sh_gains.specs.Knowing as knowing
use Rattle.sh_rules.specs.declared.course.Course.{Course}
use Rattle.sh_rules.specs.Behind.{Behind, both, in_any_case}
use Rattle.sh_rules.specs.Walks.{facts_in}
use Rattle.sh_rules.proofs.GainLemmas.{facts_gained}
use Rattle.sh_rules.proofs.LedLemmas.{any_led, both_stand}
use Rattle.sh_drafts.specs.declared.subject.Subject.{Subject}
use Rattle.sh_drafts.specs.Ready.{IsOver}
use Rattle.sh_sweeps.specs.Plain.{IsAlone, IsAssigning, IsCarried, IsItemCarried, IsNamed, IsPlain, IsSimple, is_assignment, joined}
use Rattle.sh_sweeps.specs.Sweeps.{AreItems, AreParts, ArePassed, IsCommand, IsPart, IsPassed, Knows, KnowsBehind, known_behind, setting_by}
use Rattle.sh_sweeps.proofs.BeforeLemmas.{assigned_known, utility_known}
use Rattle.sh_sweeps.proofs.KnownLemmas.{gains_known}
use Rattle.sh_sweeps.proofs.PlacedLemmas.{after_some, at_index, command_placed, foreground_within, items_next, pipe_placed, short_placed}
use Rattle.sh_sweeps.proofs.SweepLemmas.{behind_of, knows_follow, stands_of}

-- A name of plain bytes

static_of_plain : (t : p.Text) → (static_of (p.more_parts (p.Plain t) p.no_parts) ≡ None) ⊎ (static_of (p.more_parts (p.Plain t) p.no_parts) ≡ Some t)
unfolding static_of word_text part_text
static_of_plain t = go (is_pattern (p.more_parts (p.Plain t) p.no_parts)) (word_of t)
  where
    word_of : (t : p.Text) → word_text (p.more_parts (p.Plain t) p.no_parts) ≡ Some t
    word_of t = ap Some (append-nil t)

    go : (b : Bool) {o : Option p.Text} → o ≡ Some t → ((if b then None else o) ≡ None) ⊎ ((if b then None else o) ≡ Some t)
    go true e = inl refl
    go false e = inr e

-- it is no function's, and has no meaning of its own
named_utility : (functions : List p.Text) (t : p.Text) (o : Option p.Text) (ws : List p.Word) → (o ≡ None) ⊎ (o ≡ Some t) → kind_of t ≡ kind.Utility → is_one_of functions t ≡ false
    → manner_of_name functions o ws ≡ Utility kind.Utility ws
unfolding manner_of_name
named_utility functions t o ws (inl none) kind function = rw none refl
named_utility functions t o ws (inr some) kind function = rw some (rw function (rw kind refl))

utility_manner : (b : List ℕ) (functions : List p.Text) (es : List Element) (name : Span) → IsNamed es name → kind_of (text_of b name) ≡ kind.Utility → is_one_of functions (text_of b name) ≡ false
    → (ws : List p.Word) × (manner functions (elements_from b es) ≡ Utility kind.Utility ws)
unfolding manner_of_words operands_in words_in parts_from
utility_manner b functions es name named kind function =
    let word : parts_from b named.word.parts ≡ p.more_parts (p.Plain (text_of b name)) p.no_parts = ap (parts_from b) named.plain ∙ ap (λ x. p.more_parts x p.no_parts) (rules.part_of-Plain b name) in
    let all : elements_from b es ≡ p.operand (p.more_parts (p.Plain (text_of b name)) p.no_parts) (elements_from b named.rest) =
    ap (elements_from b) named.first ∙ rules.elements_from-Word b named.word named.rest ∙ ap (λ w. p.operand w (elements_from b named.rest)) word in (
      words_in (operands_in (elements_from b named.rest)),
      ap (manner functions) all ∙ named_utility functions (text_of b name) _ _ (static_of_plain (text_of b name)) kind function,
    )

pub is_plain : (s : Subject) (c : Command) (es : List Element) (name : Span) → IsSimple c es → IsNamed es name → kind_of (text_of s.script.now name) ≡ kind.Utility
    → is_one_of (functions_in s.script.now s.tree.now) (text_of s.script.now name) ≡ false → IsPlain s c
is_plain s c es name simple named kind function =
    let m = utility_manner s.script.now (functions_in s.script.now s.tree.now) es name named kind function in
    let same : elements_from s.script.now es ≡ elements_from s.script.now (elements_of (out-Command c).kind) = ap (elements_from s.script.now) (sym simple.elements) in
    record {
      simple = simple.simple s.script.now ∙ ap p.Simple same;
      words = m.0;
      named = ap (manner (functions_in s.script.now s.tree.now)) (sym same) ∙ m.1;
    }

-- Assignments alone

elements_assigned : (b : List ℕ) (es : List Element) → list_all is_assignment es ≡ true → (operands_in (elements_from b es) ≡ p.no_words) × (redirects_in (elements_from b es) ≡ p.no_redirects)
unfolding elements_from element_from operands_in redirects_in is_assignment
elements_assigned b [] all = (refl, refl)
elements_assigned b (Assignment' name v shape row ∷ es) all = elements_assigned b es all
elements_assigned b (Word' v shape row ∷ es) all = absurd (true≢false (sym all))
elements_assigned b (Redirection' at number target ∷ es) all = absurd (true≢false (sym all))

pub is_assigning : (s : Subject) (c : Command) (es : List Element) → IsSimple c es → list_all is_assignment es ≡ true → IsAssigning s c
unfolding manner_of_words words_in is_redirected
is_assigning s c es simple all =
    let same : elements_from s.script.now es ≡ elements_from s.script.now (elements_of (out-Command c).kind) = ap (elements_from s.script.now) (sym simple.elements) in
    let none = elements_assigned s.script.now es all in
    record {
      simple = simple.simple s.script.now ∙ ap p.Simple same;
      named = ap (manner (functions_in s.script.now s.tree.now)) (sym same) ∙ ap (λ ws. manner_of_words (functions_in s.script.now s.tree.now) (words_in ws)) none.0;
      redirected = ap (λ x. is_redirected (redirects_in x)) (sym same) ∙ ap is_redirected none.1;
    }

-- An item that is a command alone

after_alone : (b : List ℕ) (q : Seen) (i : Item) (c : Command) → IsAlone i c → e.item_after q (out-Item i).background (trees.and_or_of b (out-Item i).list) ≡ swapped (out-Pipe (out-AndOr (out-Item i).list).first).negated (after_command (out-Command c).number)
unfolding e.item_after e.list_after e.links_after e.pipeline_after e.parts_after commands_from links_from
after_alone b q i c alone =
    let l : AndOr = (out-Item i).list in
    let negated : Bool = (out-Pipe (out-AndOr l).first).negated in
    let command : trees.command_of b c ≡ _ = rules.command_of-out b c in
    let pipe : trees.pipeline_of b (out-AndOr l).first ≡ p.pipeline negated (p.more_commands (trees.command_of b c) p.no_commands) =
    rules.pipeline_of-out b (out-AndOr l).first ∙ ap (λ cs. p.pipeline negated (commands_from b cs)) alone.part in
    let list : trees.and_or_of b l ≡ p.and_or (p.pipeline negated (p.more_commands (trees.command_of b c) p.no_commands)) p.no_links =
    rules.and_or_of-out b l ∙ ap (λ ls. p.and_or (trees.pipeline_of b (out-AndOr l).first) (links_from b ls)) alone.links ∙ ap (λ x. p.and_or x p.no_links) pipe in
    ap (λ z. e.item_after q z (trees.and_or_of b l)) alone.foreground ∙ ap (e.item_after q false) list
    ∙ ap (λ m. e.item_after q false (p.and_or (p.pipeline negated (p.more_commands m p.no_commands)) p.no_links)) command

either_way : (s : Subject) (is_negated : Bool) (n : ℕ) (k : Facts) → Knows s (at (AfterZero n)) k × Knows s (at (AfterNonzero n)) k → KnowsBehind s (swapped is_negated (after_command n)) (both k)
unfolding swapped if_zero if_nonzero
either_way s false n k known other keeps = record { zero = known.0 other keeps; nonzero = known.1 other keeps }
either_way s true n k known other keeps = record { zero = known.1 other keeps; nonzero = known.0 other keeps }

run_taken : (is : List Item) (place next : ℕ) (i : Item) → place ≤ next → next < length is → i ≡ get_or is next i
    → take (next + 1 - place) (drop place is) ≡ take (next - place) (drop place is) ++ i ∷ []
run_taken is place next i before low found =
    let more : next + 1 - place ≡ (next - place) + 1 = omega (arith, before) in
    let sum : place + (next - place) ≡ next = omega (arith, before) in
    let some : next - place < length (drop place is) = omega (arith, before, low, length-drop place is) in
    ap (λ n. take n (drop place is)) more ∙ take_more (drop place is) (next - place) i some
    ∙ ap (λ j. take (next - place) (drop place is) ++ j ∷ []) (get_or-drop place is (next - place) i ∙ ap (λ n. get_or is n i) sum ∙ sym found)

pub some_taken : (is : List Item) (place next : ℕ) → place < next → next < length is → 0 < length (take (next - place) (drop place is))
some_taken is place next more low =
    let taken = length-take (next - place) (drop place is) in
    let left = length-drop place is in
    omega (arith, more, low, taken, left)

run_more : (s : Subject) (a b c : Course) (is : List Item) (i : Item) → ArePassed s a b is → IsPassed s b c i → ArePassed s a c (is ++ i ∷ [])
unfolding e.items_after items_from
run_more s a b c is i passed one = record {
  none = λ same. absurd (omega (arith, ap length same, length-append is (i ∷ [])));
  by = λ j rest same. one.by;
  behind = λ o knows.
      subst (λ q. KnowsBehind s q (known_behind s c.behind)) (sym (after_some s o is (i ∷ [])))
      (one.behind (e.items_after o (items_from s.script.now is)) (passed.behind o knows));
}

module _ (s : Subject) (admitted : IsAdmitted s.script.now s.policy.now s.tree.now s.names.now) (x : kept.Certificate) (numbered : AreNumbered s.names.now) (over : IsOver s x) where
  command_alone : (by : FlowRule) (y : Around) (i : Item) (is : List Item) (c : Command) (k : Knowledge) → IsAlone i c → AreItems s by y (both (knowledge_facts s.names.now k)) (i ∷ is)
      → IsCommand s by y (knowledge_facts s.names.now k) c
  command_alone by y i is c k alone here =
      let f : Facts = knowledge_facts s.names.now k in
      let at : Course = record (joined k) { by = by } in
      let list = foreground_within s y at i is f alone.foreground (λ q knows other keeps. within_through _ (meet f f) f (knows other keeps) (meet_first f f)) x numbered over here in
      let pipe = pipe_placed s by y f (out-Item i).list list in
      let one : length (out-Pipe (out-AndOr (out-Item i).list).first).parts ≤ 1 = subst (λ cs. length cs ≤ 1) (sym alone.part) (omega arith) in
      command_placed s by y f c [] (subst (AreParts s by y f) alone.part (short_placed s by y f (out-AndOr (out-Item i).list).first one pipe))

  -- what is gained, by a walk that goes over the words
  pub words_known : (g : Gains) (k l : Knowledge) → knowing.known_of s.names.now l ≡ knowing.gained g (knowing.known_of s.names.now k)
      → (q : Seen) → Knows s q (knowledge_facts s.names.now k) → Knows s (gaining g q) (knowledge_facts s.names.now l)
  unfolding facts_in
  words_known g k l is = gains_known s x numbered over g k l (facts_gained (setting_by s x) s.names.now k l g is)

  pub utility_carried : (c : Command) (es : List Element) (k l : Knowledge) → IsSimple c es → IsPlain s c
      → ((q : Seen) → Knows s q (knowledge_facts s.names.now k) → Knows s (behind_words (elements_from s.script.now es) q) (knowledge_facts s.names.now l)) → IsCarried s c k l
  utility_carried c es k l simple plain gained by y here =
      utility_known s admitted by y (knowledge_facts s.names.now k) c here plain (knowledge_facts s.names.now l)
      (subst (λ fs. (q : Seen) → Knows s q (knowledge_facts s.names.now k) → Knows s (behind_words (elements_from s.script.now fs) q) (knowledge_facts s.names.now l)) (sym simple.elements) gained)

  pub assigned_carried : (c : Command) (es : List Element) (k m l : Knowledge) → IsSimple c es → IsAssigning s c
      → ((q : Seen) → Knows s q (knowledge_facts s.names.now k) → Knows s (behind_words (elements_from s.script.now es) q) (knowledge_facts s.names.now m))
      → ((q : Seen) → Knows s q (knowledge_facts s.names.now m) → Knows s (gaining (assignments_gains (elements_from s.script.now es)) q) (knowledge_facts s.names.now l)) → IsCarried s c k l
  assigned_carried c es k m l simple assigning gained settled by y here =
      let f : Facts = knowledge_facts s.names.now k in
      let g : Facts = knowledge_facts s.names.now m in
      let h : Facts = knowledge_facts s.names.now l in
      assigned_known s admitted by y f c here assigning g h
      (subst (λ fs. (q : Seen) → Knows s q f → Knows s (behind_words (elements_from s.script.now fs) q) g) (sym simple.elements) gained)
      (subst (λ fs. (q : Seen) → Knows s q g → Knows s (gaining (assignments_gains (elements_from s.script.now fs)) q) h) (sym simple.elements) settled)

  pub item_carried : (i : Item) (c : Command) (k l : Knowledge) → IsAlone i c → IsCarried s c k l → IsItemCarried s i k l
  item_carried i c k l alone carried by y is here =
      let known = carried by y (command_alone by y i is c k alone here) in
      record {
        by = refl;
        behind = λ o knows.
            subst (λ a. KnowsBehind s a (both (knowledge_facts s.names.now l))) (sym (after_alone s.script.now (views.in_any_case o) i c alone))
            (either_way s (out-Pipe (out-AndOr (out-Item i).list).first).negated (out-Command c).number (knowledge_facts s.names.now l) known);
      }

  -- A run of such items

  pub carried_on : (place next : ℕ) (is : List Item) (i : Item) (a k l : Knowledge) → place ≤ next → next < length is → i ≡ get_or is next i → IsItemCarried s i k l
      → (by : FlowRule) × (y : Around) × AreItems s by y (both (knowledge_facts s.names.now k)) (drop next is) → ArePassed s (joined a) (joined k) (take (next - place) (drop place is))
      → ((by : FlowRule) × (y : Around) × AreItems s by y (both (knowledge_facts s.names.now l)) (drop (next + 1) is)) × ArePassed s (joined a) (joined l) (take (next + 1 - place) (drop place is))
  carried_on place next is i a k l before low found carried here run =
      let left : List Item = drop (next + 1) is in
      let at : AreItems s here.0 here.1 (both (knowledge_facts s.names.now k)) (i ∷ left) = subst (AreItems s here.0 here.1 (both (knowledge_facts s.names.now k))) (at_index is next i low found) here.2 in
      let one : IsPassed s (joined k) (joined l) i = carried here.0 here.1 left at in
      let course : Course = record (joined k) { by = here.0 } in (
        (F2, here.1, items_next s here.1 course (joined l) i left at (record { by = one.by; behind = one.behind })),
        subst (ArePassed s (joined a) (joined l)) (sym (run_taken is place next i before low found)) (run_more s (joined a) (joined k) (joined l) (take (next - place) (drop place is)) i run one),
      )

  -- where it begins, whatever the status was
  joined_known : (o : After) (b : Behind) (k : Facts) → k ≡ in_any_case b → KnowsBehind s o b → KnowsBehind s (Both (views.in_any_case o)) (both k)
  joined_known o b k any knows =
      let follows = knows_follow s x numbered over in
      let known : Knows s (views.in_any_case o) k = subst (Knows s (views.in_any_case o)) (sym any) (any_led (setting_by s x) (Knows s) follows o b (stands_of s o b knows)) in
      behind_of s (Both (views.in_any_case o)) (both k) (both_stand (setting_by s x) (Knows s) follows (views.in_any_case o) k known)

  pub joined_placed : (by : FlowRule) (y : Around) (b : Behind) (k : Facts) (is : List Item) → k ≡ in_any_case b → AreItems s by y b is → AreItems s by y (both k) is
  unfolding e.items_entered items_from views.in_any_case
  joined_placed by y b k is any here =
      record { seen = Both (views.in_any_case here.seen); part = subst (IsPart s) (entered is here.seen) here.part; knows = joined_known here.seen b k any here.knows }
    where
      entered : (is : List Item) (o : After) → e.items_entered by y o (items_from s.script.now is) ≡ e.items_entered by y (Both (views.in_any_case o)) (items_from s.script.now is)
      entered [] o = refl
      entered (i ∷ is) o = refl

  pub run_passed : (old : Course) (k l : Knowledge) (is : List Item) → knowledge_facts s.names.now k ≡ in_any_case (known_behind s old.behind) → 0 < length is → ArePassed s (joined k) (joined l) is
      → ArePassed s old (joined l) is
  unfolding e.items_after items_from views.in_any_case
  run_passed old k l [] any some passed = absurd (omega (arith, some))
  run_passed old k l (i ∷ is) any some passed = record {
    none = λ same. absurd (omega (arith, some, ap length same));
    by = λ j rest same. refl;
    behind = λ o knows. passed.behind (Both (views.in_any_case o)) (joined_known o (known_behind s old.behind) (knowledge_facts s.names.now k) any knows);
  }
