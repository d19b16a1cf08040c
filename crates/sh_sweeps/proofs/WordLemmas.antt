-- Where a sweep is in words, by where it is before them: a lemma for each kind of element, part and
-- expression (XCU 2.6, 2.9.1).
use Rattle.std.proofs.Common.{◌≡◌, ◌≤◌, ℕ, Bool, true, false, not, drop, Result, Ok, Err, IfOk, List, [], ◌∷◌, ◌++◌, refl, sym, ap, ◌∙◌, subst}
use Rattle.sh_tree.specs.declared.tree.Action.{Action}
use Rattle.sh_tree.specs.declared.tree.Action.TheVariants as action
use Rattle.sh_tree.specs.declared.tree.Binary.{Binary}
use Rattle.sh_tree.specs.declared.tree.Clause.{Clause, out-Clause}
use Rattle.sh_tree.specs.declared.tree.Command.{Command, out-Command}
use Rattle.sh_tree.specs.declared.tree.Element.{Element, Assignment', Word', Redirection'}
use Rattle.sh_tree.specs.declared.tree.Expr.{Expr}
use Rattle.sh_tree.specs.declared.tree.Kind.{Kind}
use Rattle.sh_tree.specs.declared.tree.Part.{Part}
use Rattle.sh_tree.specs.declared.tree.Redirect.{Redirect}
use Rattle.sh_tree.specs.declared.tree.Word.{Word}
use Rattle.sh_tree.specs.Lists.{clauses_from, element_from, elements_from, operands_from, parts_from, redirects_from, words_from}
use Rattle.sh_tree.specs.standard.program.Syntax as p
use Rattle.sh_tree.specs.standard.program.Trees as trees
use Rattle.sh_domain.specs.declared.certificate.Certificate as kept
use Rattle.sh_domain.specs.declared.rule.FlowRule.TheVariants.{F11}
use Rattle.sh_domain.specs.Admitted.{IsAdmitted, functions_in}
use Rattle.sh_domain.specs.Entries as e
use Rattle.sh_domain.specs.Entries.{Around, behind_redirects}
use Rattle.sh_domain.specs.Facts.{Facts, NotReached, Nowhere, claims}
use Rattle.sh_domain.specs.Gains.{Gains, and_gains, assigned_in, expanded_gains, named, no_gains, operands_gains, operator_gains, part_gains, redirect_gains, sure, word_gains}
use Rattle.sh_domain.specs.declared.knowledge.Knowledge.{Knowledge}
use Rattle.sh_domain.specs.Knowledge.{AreNumbered, knowledge_facts}
use Rattle.sh_domain.specs.Rules.{kind_bounds}
use Rattle.sh_domain.specs.Table.{behind_words}
use Rattle.sh_domain.specs.Views as views
use Rattle.sh_domain.specs.Views.{Before, Seen, at, gaining}
use Rattle.sh_domain.proofs.OrderLemmas.{within_nowhere}
use Rattle.sh_domain.specs.Order.{IsWithin}
use Rattle.sh_gains.specs.Knowing.{inner_gains, action_gains}
use Rattle.sh_rules.specs.Settings.{gained}
use Rattle.sh_rules.specs.Walks.{facts_in}
use Rattle.sh_rules.proofs.GainLemmas.{none_gained}
use Rattle.sh_rules.proofs.LedLemmas.{Follows}
use Rattle.sh_drafts.specs.declared.subject.Subject.{Subject}
use Rattle.sh_sweeps.specs.Sweeps.{AreBranches, AreClauses, AreElements, AreKept, Gained, IsCase, IsIn, IsInside, IsKind, IsList, IsPart, IsWord, Knows, setting_by}
use Rattle.sh_drafts.specs.Ready.{IsOver}
use Rattle.sh_sweeps.proofs.BeforeLemmas.{kind_kept}
use Rattle.sh_sweeps.proofs.KnownLemmas.{unreached}
use Rattle.sh_sweeps.proofs.PlacedLemmas.{branches_placed, case_placed, inside_parts, left_at}
use Rattle.sh_sweeps.proofs.SweepLemmas.{first_part, knows_follow, last_part}

-- after a call whose result is returned
pub if_ok : {T E : Type 0} (r : Result T E) (P Q : T → Type 0) → ((x : T) → P x → Q x) → IfOk r P → IfOk r Q
if_ok (Ok x) P Q f h = f x h
if_ok (Err e) P Q f h = tt

module _ (s : Subject) where
  -- no run comes here
  pub gained_nowhere : (g : Gains) (k : Facts) → Gained s g k NotReached
  gained_nowhere g k q knows other keeps = within_nowhere _

  -- What is in a command

  pub redirections_placed : (y : Around) (c : Command) → IsInside s y c → IsPart s (e.redirects_entered (at (Before (out-Command c).number)) (redirects_from s.script.now (out-Command c).redirects))
  redirections_placed y c here = first_part s _ _ (inside_parts s y c here)

  pub kind_placed : IsAdmitted s.script.now s.policy.now s.tree.now s.names.now → (y : Around) (k : Facts) (c : Command) → IsInside s y c
      → Knows s (behind_redirects (out-Command c).number (redirects_from s.script.now (out-Command c).redirects)) k → IsKind s y (out-Command c).number k (out-Command c).kind
  kind_placed admitted y k c here knows = record {
    inside = record {
      seen = behind_redirects (out-Command c).number (redirects_from s.script.now (out-Command c).redirects);
      part = last_part s (e.redirects_entered (at (Before (out-Command c).number)) (redirects_from s.script.now (out-Command c).redirects)) _ (inside_parts s y c here);
      knows = knows;
    };
    asked = kind_kept s admitted y c here;
  }

  -- what a command is
  pub kind_as : (y : Around) (n : ℕ) (k : Facts) (kind v : Kind) (program : p.Kind) → kind ≡ v → trees.kind_of s.script.now v ≡ program → IsKind s y n k kind → IsIn s (λ q. e.kind_entered y n q program) k
  kind_as y n k kind v program is same here = subst (λ m. IsIn s (λ q. e.kind_entered y n q m) k) (ap (trees.kind_of s.script.now) is ∙ same) here.inside

  pub case_as : (y : Around) (n : ℕ) (k : Facts) (kind v : Kind) (w : p.Word) (cs : p.Clauses) → kind ≡ v → trees.kind_of s.script.now v ≡ p.Case w cs → IsKind s y n k kind → IsCase s y n k w cs
  case_as y n k kind v w cs is same here =
      let q : Seen = here.inside.seen in
      let known : trees.kind_of s.script.now kind ≡ p.Case w cs = ap (trees.kind_of s.script.now) is ∙ same in
      case_placed s y n q k w cs (subst (λ m. IsPart s (e.kind_entered y n q m)) known here.inside.part) here.inside.knows
      (subst (λ m. AreKept s (kind_bounds (functions_in s.script.now s.tree.now) y n q m)) known here.asked)

  pub cond_as : (y : Around) (n : ℕ) (k : Facts) (kind v : Kind) (bs : p.Branches) (z : p.Otherwise) → kind ≡ v → trees.kind_of s.script.now v ≡ p.Conditional bs z → IsKind s y n k kind → AreBranches s y n k bs z
  cond_as y n k kind v bs z is same here =
      let q : Seen = here.inside.seen in
      let known : trees.kind_of s.script.now kind ≡ p.Conditional bs z = ap (trees.kind_of s.script.now) is ∙ same in
      branches_placed s y n q k bs z (subst (λ m. IsPart s (e.kind_entered y n q m)) known here.inside.part) here.inside.knows
      (subst (λ m. AreKept s (kind_bounds (functions_in s.script.now s.tree.now) y n q m)) known here.asked)

  pub elements_placed : (y : Around) (n : ℕ) (k : Facts) (es : p.Elements) → IsIn s (λ q. e.kind_entered y n q (p.Simple es)) k → IsIn s (λ q. e.elements_entered q (behind_words es q) es) k
  unfolding e.items_entered
  elements_placed y n k es here = record { seen = here.seen; part = here.part; knows = here.knows }

  pub for_words_placed : (y : Around) (n : ℕ) (k : Facts) (name : p.Text) (ws : p.ForWords) (t : p.Items) → IsIn s (λ q. e.kind_entered y n q (p.For name ws t)) k → IsIn s (λ q. e.for_words_entered q ws) k
  unfolding e.items_entered
  for_words_placed y n k name ws t here = record { seen = here.seen; part = first_part s (e.for_words_entered here.seen ws) _ here.part; knows = here.knows }

  pub listed_placed : (k : Facts) (ws : p.Words) → IsIn s (λ q. e.for_words_entered q (p.listed ws)) k → IsIn s (λ q. e.words_entered q ws) k
  unfolding e.items_entered
  listed_placed k ws here = record { seen = here.seen; part = here.part; knows = here.knows }

  -- the word of a `case`, and its clauses after it
  pub case_word : (y : Around) (n : ℕ) (k : Facts) (w : p.Word) (cs : p.Clauses) → IsCase s y n k w cs → IsWord s k w
  case_word y n k w cs here = record { seen = here.inside.seen; part = first_part s (e.word_entered here.inside.seen w) _ here.inside.part; knows = here.inside.knows }

  pub clause_patterns : (y : Around) (n : ℕ) (k fallen : Facts) (c : Clause) (cs : List Clause) → AreClauses s y n k fallen (clauses_from s.script.now (c ∷ cs))
      → IsIn s (λ q. e.patterns_entered q (words_from s.script.now (out-Clause c).patterns)) k
  unfolding e.items_entered clauses_from
  clause_patterns y n k fallen c cs here = record { seen = here.seen; part = first_part s _ _ (first_part s _ _ here.part); knows = here.knows }

  -- The elements of a simple command

  pub elements_first : (k b : Facts) (es : p.Elements) → ((q : Seen) → Knows s q k → Knows s (behind_words es q) b) → IsIn s (λ q. e.elements_entered q (behind_words es q) es) k → AreElements s k b es
  elements_first k b es behind here = record { seen = here.seen; last = behind_words es here.seen; part = here.part; knows = here.knows; knows_last = behind here.seen here.knows }

  pub value_placed : (k b : Facts) (t : p.Text) (w : p.Word) (es : p.Elements) → AreElements s k b (p.assignment t w es) → IsWord s b w
  unfolding e.items_entered
  value_placed k b t w es here = record { seen = here.last; part = first_part s (e.word_entered here.last w) _ here.part; knows = here.knows_last }

  pub value_next : (k b : Facts) (t : p.Text) (w : p.Word) (es : p.Elements) → AreElements s k b (p.assignment t w es) → AreElements s k b es
  unfolding e.items_entered
  value_next k b t w es here = record { seen = here.seen; last = here.last; part = last_part s (e.word_entered here.last w) _ here.part; knows = here.knows; knows_last = here.knows_last }

  pub operand_placed : (k b : Facts) (w : p.Word) (es : p.Elements) → AreElements s k b (p.operand w es) → IsWord s k w
  unfolding e.items_entered
  operand_placed k b w es here = record { seen = here.seen; part = first_part s (e.word_entered here.seen w) _ here.part; knows = here.knows }

  pub operand_next : (k k' b : Facts) (w : p.Word) (es : p.Elements) → Gained s (word_gains w) k k' → AreElements s k b (p.operand w es) → AreElements s k' b es
  unfolding e.items_entered
  operand_next k k' b w es behind here = record {
    seen = gaining (word_gains w) here.seen;
    last = here.last;
    part = last_part s (e.word_entered here.seen w) _ here.part;
    knows = behind here.seen here.knows;
    knows_last = here.knows_last;
  }

  pub redirection_placed : (k b : Facts) (r : p.Redirect) (es : p.Elements) → AreElements s k b (p.redirection r es) → IsIn s (λ q. e.redirect_entered q r) b
  unfolding e.items_entered
  redirection_placed k b r es here = record { seen = here.last; part = first_part s (e.redirect_entered here.last r) _ here.part; knows = here.knows_last }

  pub redirection_next : (k b : Facts) (r : p.Redirect) (es : p.Elements) → AreElements s k b (p.redirection r es) → AreElements s k b es
  unfolding e.items_entered
  redirection_next k b r es here = record { seen = here.seen; last = here.last; part = last_part s (e.redirect_entered here.last r) _ here.part; knows = here.knows; knows_last = here.knows_last }

  -- an element before others
  pub element_as : (k b : Facts) (x v : Element) (xs : List Element) (program : p.Elements) → x ≡ v → elements_from s.script.now (v ∷ xs) ≡ program → AreElements s k b (elements_from s.script.now (x ∷ xs)) → AreElements s k b program
  element_as k b x v xs program is same here = subst (AreElements s k b) (ap (λ y. elements_from s.script.now (y ∷ xs)) is ∙ same) here

  -- Redirections

  pub file_placed : (k : Facts) (w : p.Word) → IsIn s (λ q. e.redirect_entered q (p.File w)) k → IsWord s k w
  unfolding e.items_entered
  file_placed k w here = record { seen = here.seen; part = here.part; knows = here.knows }

  pub here_placed : (k : Facts) (w : p.Word) → IsIn s (λ q. e.redirect_entered q (p.Here w)) k → IsWord s k w
  unfolding e.items_entered
  here_placed k w here = record { seen = here.seen; part = here.part; knows = here.knows }

  pub file_gained : (k l : Facts) (w : p.Word) → Gained s (word_gains w) k l → Gained s (redirect_gains (p.File w)) k l
  unfolding redirect_gains
  file_gained k l w h = h

  pub here_gained : (k l : Facts) (w : p.Word) → Gained s (word_gains w) k l → Gained s (redirect_gains (p.Here w)) k l
  unfolding redirect_gains
  here_gained k l w h = h

  pub redirect_placed : (k : Facts) (r : Redirect) (rs : List Redirect) → IsIn s (λ q. e.redirects_entered q (redirects_from s.script.now (r ∷ rs))) k
      → IsIn s (λ q. e.redirect_entered q (trees.target_of s.script.now r.target)) k
  unfolding e.items_entered redirects_from
  redirect_placed k r rs here = record { seen = here.seen; part = first_part s (e.redirect_entered here.seen (trees.target_of s.script.now r.target)) _ here.part; knows = here.knows }

  pub redirects_next : (k k' : Facts) (r : Redirect) (rs : List Redirect) → Gained s (redirect_gains (trees.target_of s.script.now r.target)) k k'
      → IsIn s (λ q. e.redirects_entered q (redirects_from s.script.now (r ∷ rs))) k → IsIn s (λ q. e.redirects_entered q (redirects_from s.script.now rs)) k'
  unfolding e.items_entered redirects_from
  redirects_next k k' r rs behind here = record {
    seen = gaining (redirect_gains (trees.target_of s.script.now r.target)) here.seen;
    part = last_part s (e.redirect_entered here.seen (trees.target_of s.script.now r.target)) _ here.part;
    knows = behind here.seen here.knows;
  }

  -- Words

  pub word_placed : (k : Facts) (w : Word) (ws : List Word) → IsIn s (λ q. e.words_entered q (words_from s.script.now (w ∷ ws))) k → IsWord s k (parts_from s.script.now w.parts)
  unfolding e.items_entered words_from
  word_placed k w ws here = record { seen = here.seen; part = first_part s (e.word_entered here.seen (parts_from s.script.now w.parts)) _ here.part; knows = here.knows }

  pub words_next : (k k' : Facts) (w : Word) (ws : List Word) → Gained s (word_gains (parts_from s.script.now w.parts)) k k' → IsIn s (λ q. e.words_entered q (words_from s.script.now (w ∷ ws))) k
      → IsIn s (λ q. e.words_entered q (words_from s.script.now ws)) k'
  unfolding e.items_entered words_from
  words_next k k' w ws behind here = record {
    seen = gaining (word_gains (parts_from s.script.now w.parts)) here.seen;
    part = last_part s (e.word_entered here.seen (parts_from s.script.now w.parts)) _ here.part;
    knows = behind here.seen here.knows;
  }

  pub pattern_placed : (k : Facts) (w : Word) (ws : List Word) → IsIn s (λ q. e.patterns_entered q (words_from s.script.now (w ∷ ws))) k → IsWord s k (parts_from s.script.now w.parts)
  unfolding e.items_entered words_from
  pattern_placed k w ws here = record { seen = here.seen; part = first_part s (e.word_entered here.seen (parts_from s.script.now w.parts)) _ here.part; knows = here.knows }

  pub patterns_next : (k : Facts) (w : Word) (ws : List Word) → IsIn s (λ q. e.patterns_entered q (words_from s.script.now (w ∷ ws))) k → IsIn s (λ q. e.patterns_entered q (words_from s.script.now ws)) k
  unfolding e.items_entered words_from
  patterns_next k w ws here = record { seen = here.seen; part = last_part s (e.word_entered here.seen (parts_from s.script.now w.parts)) _ here.part; knows = here.knows }

  -- Parts of words

  pub part_placed : (k : Facts) (x : Part) (xs : List Part) → IsWord s k (parts_from s.script.now (x ∷ xs)) → IsIn s (λ q. e.part_entered q (trees.part_of s.script.now x)) k
  unfolding e.items_entered parts_from
  part_placed k x xs here = record { seen = here.seen; part = first_part s (e.part_entered here.seen (trees.part_of s.script.now x)) _ here.part; knows = here.knows }

  pub pieces_next : (k k' : Facts) (x : Part) (xs : List Part) → Gained s (part_gains (trees.part_of s.script.now x)) k k' → IsWord s k (parts_from s.script.now (x ∷ xs)) → IsWord s k' (parts_from s.script.now xs)
  unfolding e.items_entered parts_from
  pieces_next k k' x xs behind here = record {
    seen = gaining (part_gains (trees.part_of s.script.now x)) here.seen;
    part = last_part s (e.part_entered here.seen (trees.part_of s.script.now x)) _ here.part;
    knows = behind here.seen here.knows;
  }

  -- what a part is
  pub part_as : (k : Facts) (x v : Part) (program : p.Part) → x ≡ v → trees.part_of s.script.now v ≡ program → IsIn s (λ q. e.part_entered q (trees.part_of s.script.now x)) k → IsIn s (λ q. e.part_entered q program) k
  part_as k x v program is same here = subst (λ y. IsIn s (λ q. e.part_entered q y) k) (ap (trees.part_of s.script.now) is ∙ same) here

  pub part_gained : (k l : Facts) (x v : Part) (program : p.Part) → x ≡ v → trees.part_of s.script.now v ≡ program → Gained s (part_gains program) k l → Gained s (part_gains (trees.part_of s.script.now x)) k l
  part_gained k l x v program is same h = subst (λ y. Gained s (part_gains y) k l) (sym (ap (trees.part_of s.script.now) is ∙ same)) h

  pub double_placed : (k : Facts) (w : p.Word) → IsIn s (λ q. e.part_entered q (p.Double w)) k → IsWord s k w
  unfolding e.items_entered
  double_placed k w here = record { seen = here.seen; part = here.part; knows = here.knows }

  pub double_gained : (k l : Facts) (w : p.Word) → Gained s (word_gains w) k l → Gained s (part_gains (p.Double w)) k l
  unfolding part_gains
  double_gained k l w h = h

  pub expansion_placed : (k : Facts) (n : ℕ) (v : p.Parameter) (o : p.Operator) → IsIn s (λ q. e.part_entered q (p.Expansion n v o)) k → IsIn s (λ q. e.operator_entered q v o) k
  unfolding e.items_entered
  expansion_placed k n v o here = record { seen = here.seen; part = here.part; knows = here.knows }

  pub expansion_gained : (k l : Facts) (n : ℕ) (v : p.Parameter) (o : p.Operator) → Gained s (operator_gains v o) k l → Gained s (part_gains (p.Expansion n v o)) k l
  unfolding part_gains
  expansion_gained k l n v o h = h

  pub arithmetic_placed : (k : Facts) (n : ℕ) (a : p.Expression) → IsIn s (λ q. e.part_entered q (p.Arithmetic n a)) k → IsIn s (λ q. e.expression_entered q a) k
  unfolding e.items_entered
  arithmetic_placed k n a here = record { seen = here.seen; part = here.part; knows = here.knows }

  pub arithmetic_gained : (k l : Facts) (n : ℕ) (a : p.Expression) → Gained s (and_gains (expanded_gains a) (named (assigned_in a))) k l → Gained s (part_gains (p.Arithmetic n a)) k l
  unfolding part_gains
  arithmetic_gained k l n a h = h

  pub substitution_placed : (k known : Facts) (n : ℕ) (t : p.Items) → ((q : Seen) → Knows s q k → Knows s (e.item_seen true q) known) → IsIn s (λ q. e.part_entered q (p.Substitution n t)) k → IsList s F11 e.alone known t
  unfolding e.items_entered e.item_seen
  substitution_placed k known n t started here = record { seen = views.without_job here.seen; part = here.part; knows = started here.seen here.knows }

  -- Operators of expansions

  pub use_placed : (k : Facts) (v : p.Parameter) (a : Action) (colon : Bool) (w : p.Word) → IsIn s (λ q. e.operator_entered q v (p.Use a colon w)) k → IsIn s (λ q. e.word_entered (e.operand_seen a v q) w) k
  unfolding e.items_entered
  use_placed k v a colon w here = record { seen = here.seen; part = here.part; knows = here.knows }

  pub remove_placed : (k : Facts) (v : p.Parameter) (r : _) (w : p.Word) → IsIn s (λ q. e.operator_entered q v (p.Remove r w)) k → IsWord s k w
  unfolding e.items_entered
  remove_placed k v r w here = record { seen = here.seen; part = here.part; knows = here.knows }

  pub operand_inside : (k known : Facts) (v : p.Parameter) (a : Action) (w : p.Word) → ((q : Seen) → Knows s q k → Knows s (e.operand_seen a v q) known) → IsIn s (λ q. e.word_entered (e.operand_seen a v q) w) k → IsWord s known w
  operand_inside k known v a w inside here = record { seen = e.operand_seen a v here.seen; part = here.part; knows = inside here.seen here.knows }

  use_gains : (v : p.Parameter) (a : Action) (colon : Bool) (w : p.Word) → action_gains v a ≡ operator_gains v (p.Use a colon w)
  unfolding operator_gains action_gains
  use_gains v action.Default colon w = refl
  use_gains v action.Assign colon w = refl
  use_gains v action.Fault colon w = refl
  use_gains v action.Alternative colon w = refl

  pub use_gained : (k l : Facts) (v : p.Parameter) (a : Action) (colon : Bool) (w : p.Word) → Gained s (action_gains v a) k l → Gained s (operator_gains v (p.Use a colon w)) k l
  use_gained k l v a colon w h = subst (λ g. Gained s g k l) (use_gains v a colon w) h

  -- Expressions

  -- what an expression is
  pub expression_as : (k : Facts) (x v : Expr) (program : p.Expression) → x ≡ v → trees.expression_of s.script.now v ≡ program → IsIn s (λ q. e.expression_entered q (trees.expression_of s.script.now x)) k
      → IsIn s (λ q. e.expression_entered q program) k
  expression_as k x v program is same here = subst (λ y. IsIn s (λ q. e.expression_entered q y) k) (ap (trees.expression_of s.script.now) is ∙ same) here

  pub expression_gained : (k l : Facts) (x v : Expr) (program : p.Expression) → x ≡ v → trees.expression_of s.script.now v ≡ program → Gained s (expanded_gains program) k l
      → Gained s (expanded_gains (trees.expression_of s.script.now x)) k l
  expression_gained k l x v program is same h = subst (λ y. Gained s (expanded_gains y) k l) (sym (ap (trees.expression_of s.script.now) is ∙ same)) h

  pub expanded_placed : (k : Facts) (y : p.Part) → IsIn s (λ q. e.expression_entered q (p.Expanded y)) k → IsIn s (λ q. e.part_entered q y) k
  unfolding e.items_entered
  expanded_placed k y here = record { seen = here.seen; part = here.part; knows = here.knows }

  pub expanded_gained : (k l : Facts) (y : p.Part) → Gained s (part_gains y) k l → Gained s (expanded_gains (p.Expanded y)) k l
  unfolding part_gains
  expanded_gained k l y h = h

  pub parenthesis_placed : (k : Facts) (a : p.Expression) → IsIn s (λ q. e.expression_entered q (p.Parenthesis a)) k → IsIn s (λ q. e.expression_entered q a) k
  unfolding e.items_entered
  parenthesis_placed k a here = record { seen = here.seen; part = here.part; knows = here.knows }

  pub parenthesis_gained : (k l : Facts) (a : p.Expression) → Gained s (expanded_gains a) k l → Gained s (expanded_gains (p.Parenthesis a)) k l
  unfolding part_gains
  parenthesis_gained k l a h = h

  pub signed_placed : (k : Facts) (o : _) (a : p.Expression) → IsIn s (λ q. e.expression_entered q (p.Signed o a)) k → IsIn s (λ q. e.expression_entered q a) k
  unfolding e.items_entered
  signed_placed k o a here = record { seen = here.seen; part = here.part; knows = here.knows }

  pub signed_gained : (k l : Facts) (o : _) (a : p.Expression) → Gained s (expanded_gains a) k l → Gained s (expanded_gains (p.Signed o a)) k l
  unfolding part_gains
  signed_gained k l o a h = h

  pub assigned_placed : (k : Facts) (n : ℕ) (t : p.Text) (o : _) (a : p.Expression) → IsIn s (λ q. e.expression_entered q (p.Assigned n t o a)) k → IsIn s (λ q. e.expression_entered q a) k
  unfolding e.items_entered
  assigned_placed k n t o a here = record { seen = here.seen; part = here.part; knows = here.knows }

  pub assigned_gained : (k l : Facts) (n : ℕ) (t : p.Text) (o : _) (a : p.Expression) → Gained s (expanded_gains a) k l → Gained s (expanded_gains (p.Assigned n t o a)) k l
  unfolding part_gains
  assigned_gained k l n t o a h = h

  pub chain_first : (k : Facts) (a : p.Expression) (rest : p.Operands) → IsIn s (λ q. e.expression_entered q (p.Chain a rest)) k → IsIn s (λ q. e.expression_entered q a) k
  unfolding e.items_entered
  chain_first k a rest here = record { seen = here.seen; part = first_part s (e.expression_entered here.seen a) _ here.part; knows = here.knows }

  pub chain_rest : (k k' : Facts) (a : p.Expression) (rest : p.Operands) → Gained s (expanded_gains a) k k' → IsIn s (λ q. e.expression_entered q (p.Chain a rest)) k → IsIn s (λ q. e.operands_entered q rest) k'
  unfolding e.items_entered
  chain_rest k k' a rest behind here = record {
    seen = gaining (expanded_gains a) here.seen;
    part = last_part s (e.expression_entered here.seen a) _ here.part;
    knows = behind here.seen here.knows;
  }

  pub choice_condition : (k : Facts) (a b c : p.Expression) → IsIn s (λ q. e.expression_entered q (p.Choice a b c)) k → IsIn s (λ q. e.expression_entered q a) k
  unfolding e.items_entered
  choice_condition k a b c here = record { seen = here.seen; part = first_part s _ _ (first_part s _ _ here.part); knows = here.knows }

  pub choice_yes : (k k' : Facts) (a b c : p.Expression) → Gained s (expanded_gains a) k k' → IsIn s (λ q. e.expression_entered q (p.Choice a b c)) k → IsIn s (λ q. e.expression_entered q b) k'
  unfolding e.items_entered
  choice_yes k k' a b c behind here = record {
    seen = gaining (expanded_gains a) here.seen;
    part = last_part s (e.expression_entered here.seen a) _ (first_part s _ _ here.part);
    knows = behind here.seen here.knows;
  }

  pub choice_no : (k k' k'' : Facts) (a b c : p.Expression) → Gained s (expanded_gains a) k k' → Gained s (expanded_gains b) k' k'' → IsIn s (λ q. e.expression_entered q (p.Choice a b c)) k
      → IsIn s (λ q. e.expression_entered q c) k''
  unfolding e.items_entered
  choice_no k k' k'' a b c one two here = record {
    seen = gaining (expanded_gains b) (gaining (expanded_gains a) here.seen);
    part = last_part s (e.expression_entered here.seen a ++ e.expression_entered (gaining (expanded_gains a) here.seen) b) _ here.part;
    knows = two (gaining (expanded_gains a) here.seen) (one here.seen here.knows);
  }

  pub link_expression : (k : Facts) (x : Binary × Expr) (xs : List (Binary × Expr)) → IsIn s (λ q. e.operands_entered q (operands_from s.script.now (x ∷ xs))) k
      → IsIn s (λ q. e.expression_entered q (trees.expression_of s.script.now x.1)) k
  unfolding e.items_entered operands_from
  link_expression k x xs here = record { seen = here.seen; part = first_part s (e.expression_entered here.seen (trees.expression_of s.script.now x.1)) _ here.part; knows = here.knows }

  pub operands_next : (k k' : Facts) (x : Binary × Expr) (xs : List (Binary × Expr)) → Gained s (expanded_gains (trees.expression_of s.script.now x.1)) k k'
      → IsIn s (λ q. e.operands_entered q (operands_from s.script.now (x ∷ xs))) k → IsIn s (λ q. e.operands_entered q (operands_from s.script.now xs)) k'
  unfolding e.items_entered operands_from
  operands_next k k' x xs behind here = record {
    seen = gaining (expanded_gains (trees.expression_of s.script.now x.1)) here.seen;
    part = last_part s (e.expression_entered here.seen (trees.expression_of s.script.now x.1)) _ here.part;
    knows = behind here.seen here.knows;
  }

  -- What is left from the place at which a sweep goes on, if nothing is known before that

  idle : (k : Facts) → k ≡ NotReached → (g : Gains) → Gained s g k k
  idle k nowhere g q w other keeps = subst (IsWithin _) (sym nowhere) (within_nowhere _)

  element_left : (k b : Facts) → k ≡ NotReached → (x : Element) (xs : List Element) → AreElements s k b (elements_from s.script.now (x ∷ xs)) → AreElements s k b (elements_from s.script.now xs)
  unfolding elements_from element_from
  element_left k b nowhere (Assignment' name z shape row) xs here = value_next k b _ _ _ here
  element_left k b nowhere (Word' z shape row) xs here = operand_next k k b _ _ (idle k nowhere _) here
  element_left k b nowhere (Redirection' at number target) xs here = redirection_next k b _ _ here

  pub elements_left : (k b : Facts) (by_one : Bool) (xs : List Element) (i j : ℕ) → (by_one ≡ false → k ≡ NotReached) → i ≤ j → (by_one ≡ true → j ≡ i) → AreElements s k b (elements_from s.script.now (drop i xs)) → AreElements s k b (elements_from s.script.now (drop j xs))
  elements_left k b by_one xs i j nowhere before same = left_at (λ ys. AreElements s k b (elements_from s.script.now ys)) by_one xs i j before same (λ none x rest. element_left k b (nowhere none) x rest)

  pub redirects_left : (k : Facts) (by_one : Bool) (xs : List Redirect) (i j : ℕ) → (by_one ≡ false → k ≡ NotReached) → i ≤ j → (by_one ≡ true → j ≡ i) → IsIn s (λ q. e.redirects_entered q (redirects_from s.script.now (drop i xs))) k → IsIn s (λ q. e.redirects_entered q (redirects_from s.script.now (drop j xs))) k
  redirects_left k by_one xs i j nowhere before same = left_at (λ ys. IsIn s (λ q. e.redirects_entered q (redirects_from s.script.now ys)) k) by_one xs i j before same (λ none x rest. redirects_next k k x rest (idle k (nowhere none) _))

  pub words_left : (k : Facts) (by_one : Bool) (xs : List Word) (i j : ℕ) → (by_one ≡ false → k ≡ NotReached) → i ≤ j → (by_one ≡ true → j ≡ i) → IsIn s (λ q. e.words_entered q (words_from s.script.now (drop i xs))) k → IsIn s (λ q. e.words_entered q (words_from s.script.now (drop j xs))) k
  words_left k by_one xs i j nowhere before same = left_at (λ ys. IsIn s (λ q. e.words_entered q (words_from s.script.now ys)) k) by_one xs i j before same (λ none x rest. words_next k k x rest (idle k (nowhere none) _))

  pub patterns_left : (k : Facts) (by_one : Bool) (xs : List Word) (i j : ℕ) → i ≤ j → (by_one ≡ true → j ≡ i) → IsIn s (λ q. e.patterns_entered q (words_from s.script.now (drop i xs))) k → IsIn s (λ q. e.patterns_entered q (words_from s.script.now (drop j xs))) k
  patterns_left k by_one xs i j before same = left_at (λ ys. IsIn s (λ q. e.patterns_entered q (words_from s.script.now ys)) k) by_one xs i j before same (λ none x rest. patterns_next k x rest)

  -- What is known after the pieces so far, and what the rest leaves after all of them

  pub record Along (q : Seen) (k : Facts) (all rest : Gains) : Type 0 where
    pub seen : Seen
    pub knows : Knows s seen k
    pub back : (l : Facts) → Knows s (gaining rest seen) l → Knows s (gaining all q) l

  pub along_first : (q : Seen) (k : Facts) (all : Gains) → Knows s q k → Along q k all all
  along_first q k all w = record { seen = q; knows = w; back = λ l v. v }

  -- by any certificate that stays above
  module _ (c : kept.Certificate) (h : AreNumbered s.names.now) (over : IsOver s c) where
    abbrev follows : Follows (setting_by s c) (Knows s)
    follows = knows_follow s c h over

    pub none_gains : (k : Facts) → Gained s no_gains k k
    none_gains k q w = subst (Knows s (gaining no_gains q)) (none_gained (setting_by s c) k) (follows.gain no_gains q k w)

    pub nothing_gained : (k : Facts) (g : Gains) → g ≡ no_gains → Gained s g k k
    nothing_gained k g is = subst (λ x. Gained s x k k) (sym is) (none_gains k)

    pub both_gained : (k l m : Facts) (g j : Gains) → Gained s g k l → Gained s j l m → Gained s (and_gains g j) k m
    both_gained k l m g j one two q w = follows.gains g j q m (two (gaining g q) (one q w))

    along_next : (q : Seen) (k k' : Facts) (all g rest : Gains) → Gained s g k k' → Along q k all (and_gains g rest) → Along q k' all rest
    along_next q k k' all g rest behind here = record {
      seen = gaining g here.seen;
      knows = behind here.seen here.knows;
      back = λ l w. here.back l (follows.gains g rest here.seen l w);
    }

    along_last : (q : Seen) (k : Facts) (all : Gains) → Along q k all no_gains → Knows s (gaining all q) k
    along_last q k all here = here.back k (none_gains k here.seen here.knows)

    pub along_parts : (q : Seen) (k k' : Facts) (all : Gains) (x : Part) (xs : List Part) → Gained s (part_gains (trees.part_of s.script.now x)) k k' → Along q k all (word_gains (parts_from s.script.now (x ∷ xs)))
        → Along q k' all (word_gains (parts_from s.script.now xs))
    unfolding part_gains parts_from
    along_parts q k k' all x xs behind here = along_next q k k' all (part_gains (trees.part_of s.script.now x)) (word_gains (parts_from s.script.now xs)) behind here

    -- what is left of a word from the place at which a sweep goes on
    pub word_left : (known : Knowledge) (is_known : Bool) (all : Gains) (first : Facts) (xs : List Part) (i j : ℕ) → is_known ≡ not (claims (knowledge_facts s.names.now known) Nowhere) → i ≤ j → (is_known ≡ true → j ≡ i)
        → IsWord s (knowledge_facts s.names.now known) (parts_from s.script.now (drop i xs)) × ((q : Seen) → Knows s q first → Along q (knowledge_facts s.names.now known) all (word_gains (parts_from s.script.now (drop i xs))))
        → IsWord s (knowledge_facts s.names.now known) (parts_from s.script.now (drop j xs)) × ((q : Seen) → Knows s q first → Along q (knowledge_facts s.names.now known) all (word_gains (parts_from s.script.now (drop j xs))))
    word_left known is_known all first xs i j reached before same =
        let k = knowledge_facts s.names.now known in
        left_at (λ ys. IsWord s k (parts_from s.script.now ys) × ((q : Seen) → Knows s q first → Along q k all (word_gains (parts_from s.script.now ys)))) is_known xs i j before same
        (λ none x rest here.
        let nothing : Gained s (part_gains (trees.part_of s.script.now x)) k k = idle k (unreached k is_known reached none) _ in
        (pieces_next k k x rest nothing here.0, λ q w. along_parts q k k all x rest nothing (here.1 q w)))

    pub along_no_parts : (q : Seen) (k : Facts) (all : Gains) → Along q k all (word_gains (parts_from s.script.now [])) → Knows s (gaining all q) k
    unfolding part_gains parts_from
    along_no_parts q k all here = along_last q k all here

    pub along_operands : (q : Seen) (k k' : Facts) (all : Gains) (x : Binary × Expr) (xs : List (Binary × Expr)) → Gained s (expanded_gains (trees.expression_of s.script.now x.1)) k k'
        → Along q k all (operands_gains (operands_from s.script.now (x ∷ xs))) → Along q k' all (operands_gains (operands_from s.script.now xs))
    unfolding part_gains operands_from
    along_operands q k k' all x xs behind here = along_next q k k' all (expanded_gains (trees.expression_of s.script.now x.1)) (operands_gains (operands_from s.script.now xs)) behind here

    -- as `word_left`, of operands
    pub operands_left : (known : Knowledge) (is_known : Bool) (all : Gains) (first : Facts) (xs : List (Binary × Expr)) (i j : ℕ) → is_known ≡ not (claims (knowledge_facts s.names.now known) Nowhere) → i ≤ j → (is_known ≡ true → j ≡ i)
        → IsIn s (λ q. e.operands_entered q (operands_from s.script.now (drop i xs))) (knowledge_facts s.names.now known) × ((q : Seen) → Knows s q first → Along q (knowledge_facts s.names.now known) all (operands_gains (operands_from s.script.now (drop i xs))))
        → IsIn s (λ q. e.operands_entered q (operands_from s.script.now (drop j xs))) (knowledge_facts s.names.now known) × ((q : Seen) → Knows s q first → Along q (knowledge_facts s.names.now known) all (operands_gains (operands_from s.script.now (drop j xs))))
    operands_left known is_known all first xs i j reached before same =
        let k = knowledge_facts s.names.now known in
        left_at (λ ys. IsIn s (λ q. e.operands_entered q (operands_from s.script.now ys)) k × ((q : Seen) → Knows s q first → Along q k all (operands_gains (operands_from s.script.now ys)))) is_known xs i j before same
        (λ none x rest here.
        let nothing : Gained s (expanded_gains (trees.expression_of s.script.now x.1)) k k = idle k (unreached k is_known reached none) _ in
        (operands_next k k x rest nothing here.0, λ q w. along_operands q k k all x rest nothing (here.1 q w)))

    pub along_no_operands : (q : Seen) (k : Facts) (all : Gains) → Along q k all (operands_gains (operands_from s.script.now [])) → Knows s (gaining all q) k
    unfolding part_gains operands_from
    along_no_operands q k all here = along_last q k all here

    pub chain_gained : (k l m : Facts) (a : p.Expression) (rest : p.Operands) → Gained s (expanded_gains a) k l → Gained s (operands_gains rest) l m → Gained s (expanded_gains (p.Chain a rest)) k m
    unfolding part_gains
    chain_gained k l m a rest one two = both_gained k l m (expanded_gains a) (operands_gains rest) one two

    pub choice_gained : (k l m o : Facts) (a b z : p.Expression) → Gained s (expanded_gains a) k l → Gained s (expanded_gains b) l m → Gained s (expanded_gains z) m o → Gained s (expanded_gains (p.Choice a b z)) k o
    unfolding part_gains
    choice_gained k l m o a b z one two three =
        both_gained k l o (expanded_gains a) (and_gains (expanded_gains b) (expanded_gains z)) one (both_gained l m o (expanded_gains b) (expanded_gains z) two three)

    -- parts and expressions that leave nothing set
    pub plain_gained : (k : Facts) (x v : Part) (program : p.Part) → x ≡ v → trees.part_of s.script.now v ≡ program → part_gains program ≡ no_gains → Gained s (part_gains (trees.part_of s.script.now x)) k k
    plain_gained k x v program is same none = part_gained k k x v program is same (nothing_gained k (part_gains program) none)

    pub literal_gained : (k : Facts) (x v : Expr) (program : p.Expression) → x ≡ v → trees.expression_of s.script.now v ≡ program → expanded_gains program ≡ no_gains
        → Gained s (expanded_gains (trees.expression_of s.script.now x)) k k
    literal_gained k x v program is same none = expression_gained k k x v program is same (nothing_gained k (expanded_gains program) none)

    -- in the word after an operator
    operand_known : (a : Action) (v : p.Parameter) (k : Facts) (q : Seen) → Knows s q k → Knows s (e.operand_seen a v q) (gained (setting_by s c) (inner_gains v a) k)
    unfolding inner_gains e.operand_seen
    operand_known action.Alternative v k q w = follows.gain (sure v) q k w
    operand_known action.Default v k q w = subst (Knows s q) (sym (none_gained (setting_by s c) k)) w
    operand_known action.Assign v k q w = subst (Knows s q) (sym (none_gained (setting_by s c) k)) w
    operand_known action.Fault v k q w = subst (Knows s q) (sym (none_gained (setting_by s c) k)) w

    pub operand_entered : (a : Action) (v : p.Parameter) (known k : Knowledge) → facts_in (setting_by s c) k ≡ gained (setting_by s c) (inner_gains v a) (facts_in (setting_by s c) known) → (q : Seen)
        → Knows s q (knowledge_facts s.names.now known) → Knows s (e.operand_seen a v q) (knowledge_facts s.names.now k)
    unfolding facts_in
    operand_entered a v known k is q w = subst (Knows s (e.operand_seen a v q)) (sym is) (operand_known a v (knowledge_facts s.names.now known) q w)
