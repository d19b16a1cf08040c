-- What the flow rules require of a compound command over views is what they require over facts.
use Rattle.std.proofs.Common.{true≢false, ◌≡◌, ℕ, Bool, true, false, ◌&&◌, ◌||◌, List, [], ◌∷◌, ◌++◌, if◌then◌else◌, refl, sym, ap, ap₂, ◌∙◌}
use Rattle.std.specs.Str.{bytes_eq}
use Rattle.sh_tree.specs.declared.tree.LoopKind.{LoopKind}
use Rattle.sh_tree.specs.declared.tree.LoopKind.TheVariants as loop
use Rattle.sh_tree.specs.standard.program.Syntax as p
use Rattle.sh_tree.specs.standard.program.Syntax.{Text}
use Rattle.sh_runs.specs.standard.runs.Environment.{is_one_of}
use Rattle.sh_domain.specs.declared.rule.FlowRule.{FlowRule}
use Rattle.sh_domain.specs.declared.rule.FlowRule.TheVariants.{F6, F7, F8, F9, F10, F11, F13}
use Rattle.sh_domain.specs.Entries as e
use Rattle.sh_domain.specs.Entries.{items_after, otherwise_seen}
use Rattle.sh_domain.specs.Facts.{Facts, NotReached, Known, meet}
use Rattle.sh_domain.specs.Gains.{named, word_gains, words_gains}
use Rattle.sh_domain.specs.Knowledge.{AreNumbered, among}
use Rattle.sh_domain.specs.Meets.{is_call}
use Rattle.sh_domain.specs.Order.{seen_facts}
use Rattle.sh_domain.specs.Rules as r
use Rattle.sh_domain.specs.Rules.{Constraint, bound, leaves}
use Rattle.sh_domain.specs.Table.{is_redirected}
use Rattle.sh_domain.specs.Views.{Certificate, Slot, Before, AfterZero, AfterNonzero, Head, ReturnsZero, ReturnsNonzero, Seen, After, Both, if_zero, if_nonzero, at, gaining, gaining_names, stepped, step, where_known}
use Rattle.sh_domain.specs.Views as views
use Rattle.sh_domain.proofs.MeetLemmas.{known_same, seen_is_meet}
use Rattle.sh_rules.specs.Asking.{Asking}
use Rattle.sh_rules.specs.Settings.{Setting, certificate, known_at, gained}
use Rattle.sh_rules.specs.Behind.{Behind, both, in_any_case, turns, falls}
use Rattle.sh_rules.specs.Walked.{trail}
use Rattle.sh_rules.specs.Meaning.{knows}
use Rattle.sh_rules.specs.Asked.{ByConstraints, is_compound}
use Rattle.sh_rules.specs.Bounds.{fault, ends, behind_list, defined, list_left, leaves_told, branches_told, otherwise_told, loop_told, for_told, clause_told, clauses_told, unmatched_told, body_told, compound_told, redirects_told}
use Rattle.sh_rules.proofs.EnteredLemmas.{Interprets, behind_of, zero_same, nonzero_same, any_same, items_same, turns_same, falls_same}
use Rattle.sh_rules.proofs.MeaningLemmas.{interprets}

-- a definition, of the names that are numbered

named_once : (n e v : Bool) → (n && (e || v)) ≡ (n && (e || (n && v)))
named_once true e v = refl
named_once false e v = refl

among_twice : (n v : Bool) → (n && v) ≡ (n && (n && v))
among_twice true v = refl
among_twice false v = refl

among_defined : (ns : List Text) (c : Certificate) (name : Text) (f : Facts) → among ns (step c (views.Define name) f) ≡ among ns (step c (views.Define name) (among ns f))
unfolding among step where_known
among_defined ns c name NotReached = refl
among_defined ns c name (Known v f a) =
    known_same _ _ _ _ a a (λ t. among_twice (is_one_of ns t) (v t)) (λ t. named_once (is_one_of ns t) (bytes_eq name t) (f t)) refl

module _ (x : Setting) (h : AreNumbered x.names) (d : Facts) where
  abbrev known : Seen → Facts
  known s = knows x d s

  abbrev i : Interprets x (knows x d)
  i = interprets x h d

  -- after lists
  abbrev pub left : After → Behind
  left o = behind_of x (knows x d) (interprets x h d) o

  -- a list that is entered where this is seen
  list_at : (s : Seen) (k : Facts) (t : p.Items) → k ≡ known s → list_left x k t ≡ left (items_after (Both s) t)
  unfolding behind_of
  list_at s k t same = ap (λ f. list_left x f t) same ∙ items_same x (knows x d) i (Both s) t

  both_at : (s : Seen) (k : Facts) → k ≡ known s → both k ≡ left (Both s)
  unfolding behind_of
  both_at s k same = ap both same

  pub slot_at : (s : Slot) → known_at x s ≡ known (at s)
  slot_at s = sym (i.slot s)

  -- after loops, and a definition

  ends_same : (k : LoopKind) (o : After) → ends k (left o) ≡ known (e.ends k o)
  unfolding ends e.ends
  ends_same loop.While o = nonzero_same x (knows x d) i o
  ends_same loop.Until o = zero_same x (knows x d) i o

  behind_same : (ws : p.ForWords) (s : Seen) → behind_list x ws (known s) ≡ known (e.behind_list ws s)
  unfolding behind_list e.behind_list
  behind_same p.every_parameter s = refl
  behind_same (p.listed ws) s = sym (i.gain (words_gains ws) s)

  defined_same : (name : Text) (s : Seen) → defined x name (known s) ≡ known (stepped (views.Define name) s)
  unfolding defined knows is_call
  defined_same name s =
      sym (ap (among x.names) (seen_is_meet.behind d (certificate x) (views.Define name) s refl)
      ∙ among_defined x.names (certificate x) name (seen_facts d (certificate x) s))

module _ {K : Type 0} (a : Asking K) (x : Setting) (h : AreNumbered x.names) (d : Facts) (g : ByConstraints K a x d) where
  pub joined : (kept mid last : K) (ks ls : List Constraint) → g.all kept ks ≡ mid → g.all mid ls ≡ last → g.all kept (ks ++ ls) ≡ last
  joined kept mid last ks ls one two = g.joined kept ks ls ∙ ap (λ b. g.all b ls) one ∙ two

  pub bound_at : (slot : Slot) (n : ℕ) (rule : FlowRule) (s : Seen) (k : Facts) (kept : K) → k ≡ knows x d s
      → g.all kept (bound slot n rule s) ≡ a.bound x slot (fault n rule) k kept
  bound_at slot n rule s k kept same = g.bounded slot n rule s kept ∙ ap (λ f. a.bound x slot (fault n rule) f kept) (sym same)

  pub leaves_at : (n : ℕ) (rule : FlowRule) (o : After) (b : Behind) (kept : K) → b ≡ left x h d o → g.all kept (leaves n rule o) ≡ leaves_told a x (fault n rule) b kept
  unfolding leaves_told
  leaves_at n rule o b kept same =
      joined kept _ _ (bound (AfterZero n) n rule (if_zero o)) (bound (AfterNonzero n) n rule (if_nonzero o))
      (bound_at (AfterZero n) n rule (if_zero o) b.zero kept (ap (λ (y : Behind). y.zero) same ∙ zero_same x (knows x d) (interprets x h d) o))
      (bound_at (AfterNonzero n) n rule (if_nonzero o) b.nonzero _ (ap (λ (y : Behind). y.nonzero) same ∙ nonzero_same x (knows x d) (interprets x h d) o))

  -- `if`

  branches_same : (n : ℕ) (s : Seen) (kept : K) (bs : p.Branches)
      → branches_told a x n (trail (knows x d s) kept) bs ≡ trail (knows x d (otherwise_seen s bs)) (g.all kept (r.branches_bounds n s bs))
  unfolding branches_told otherwise_seen r.branches_bounds
  branches_same n s kept p.no_branches = ap (trail (knows x d s)) (sym (g.none kept))
  branches_same n s kept (p.more_branches condition body rest) =
      let o = items_after (Both s) condition in
      let b = items_after (Both (if_zero o)) body in
      ap (λ (c : Behind). branches_told a x n (trail c.nonzero (leaves_told a x (fault n F6) (list_left x c.zero body) kept)) rest) (list_at x h d s (knows x d s) condition refl)
      ∙ ap₂ (λ k l. branches_told a x n (trail k l) rest) (nonzero_same x (knows x d) (interprets x h d) o)
      (sym (leaves_at n F6 b (list_left x (left x h d o).zero body) kept (list_at x h d (if_zero o) (left x h d o).zero body (zero_same x (knows x d) (interprets x h d) o))))
      ∙ branches_same n (if_nonzero o) (g.all kept (leaves n F6 b)) rest
      ∙ ap (trail (knows x d (otherwise_seen (if_nonzero o) rest))) (sym (g.joined kept (leaves n F6 b) (r.branches_bounds n (if_nonzero o) rest)))

  otherwise_same : (n : ℕ) (s : Seen) (kept : K) (t : p.Otherwise) → g.all kept (r.otherwise_bounds n s t) ≡ otherwise_told a x n (trail (knows x d s) kept) t
  unfolding otherwise_told r.otherwise_bounds
  otherwise_same n s kept p.no_else = bound_at (AfterZero n) n F6 s (knows x d s) kept refl
  otherwise_same n s kept (p.else_of list) = leaves_at n F6 (items_after (Both s) list) (list_left x (knows x d s) list) kept (list_at x h d s (knows x d s) list refl)

  -- `case`

  clause_same : (n : ℕ) (is_last : Bool) (o : After) (b : Behind) (kept : K) → b ≡ left x h d o
      → g.all kept (if is_last then leaves n F9 o else []) ≡ clause_told a x n is_last b kept
  unfolding clause_told
  clause_same n true o b kept same = leaves_at n F9 o b kept same
  clause_same n false o b kept same = g.none kept

  clauses_same : (n : ℕ) (s fallen : Seen) (kept : K) (cs : p.Clauses)
      → (clauses_told a x n (knows x d s) (trail (knows x d fallen) kept) cs).kept ≡ g.all kept (r.clauses_bounds n s fallen cs)
  unfolding clauses_told r.clauses_bounds
  clauses_same n s fallen kept p.no_clauses = sym (g.none kept)
  clauses_same n s fallen kept (p.more_clauses patterns body end rest) =
      let o = items_after (Both (s ++ fallen)) body in
      let c = list_left x (meet (knows x d s) (knows x d fallen)) body in
      let same : c ≡ left x h d o = list_at x h d (s ++ fallen) (meet (knows x d s) (knows x d fallen)) body (sym ((interprets x h d).joined s fallen)) in
      let mine : List Constraint = if r.is_last end rest then leaves n F9 o else [] in
      ap₂ (λ k l. (clauses_told a x n (knows x d s) (trail k l) rest).kept) (ap (falls end) same ∙ falls_same x (knows x d) (interprets x h d) end o) (sym (clause_same n (r.is_last end rest) o c kept same))
      ∙ clauses_same n s (e.falls end o) (g.all kept mine) rest
      ∙ sym (g.joined kept mine (r.clauses_bounds n s (e.falls end o) rest))

  unmatched_same : (n : ℕ) (always : Bool) (s : Seen) (k : Facts) (kept : K) → k ≡ knows x d s
      → g.all kept (if always then [] else bound (AfterZero n) n F9 s) ≡ unmatched_told a x n always k kept
  unfolding unmatched_told
  unmatched_same n true s k kept same = g.none kept
  unmatched_same n false s k kept same = bound_at (AfterZero n) n F9 s k kept same

  -- definitions, and redirections

  body_same : (f : Text) (c : p.Command) (kept : K) → g.all kept (r.body_bounds f c) ≡ body_told a x f c kept
  unfolding body_told r.body_bounds
  body_same f (p.command m offset kind rs) kept =
      joined kept _ _ (bound (ReturnsZero f) m F13 (at (AfterZero m))) (bound (ReturnsNonzero f) m F13 (at (AfterNonzero m)))
      (bound_at (ReturnsZero f) m F13 (at (AfterZero m)) (known_at x (AfterZero m)) kept (slot_at x h d (AfterZero m)))
      (bound_at (ReturnsNonzero f) m F13 (at (AfterNonzero m)) (known_at x (AfterNonzero m)) _ (slot_at x h d (AfterNonzero m)))

  pub redirects_same : (n : ℕ) (rs : p.Redirects) (kept : K) → g.all kept (r.redirects_bounds n rs) ≡ redirects_told a x n (is_redirected rs) kept
  unfolding redirects_told r.redirects_bounds is_redirected
  redirects_same n p.no_redirects kept = g.none kept
  redirects_same n (p.more_redirects q rs) kept = bound_at (AfterNonzero n) n F10 (at (Before n)) (known_at x (Before n)) kept (slot_at x h d (Before n))

  -- loops: a head, and what the loop leaves
  looped : (n : ℕ) (rule : FlowRule) (s : Seen) (turn : After) (last : Seen) (k f : Facts) (b : Behind) (kept : K)
      → k ≡ knows x d s → b ≡ left x h d turn → f ≡ knows x d last
      → g.all kept (bound (Head n) n rule s ++ bound (Head n) n rule (views.in_any_case turn) ++ leaves n rule (Both last))
      ≡ leaves_told a x (fault n rule) (both f) (a.bound x (Head n) (fault n rule) (in_any_case b) (a.bound x (Head n) (fault n rule) k kept))
  looped n rule s turn last k f b kept first again same =
      joined kept _ _ (bound (Head n) n rule s ++ bound (Head n) n rule (views.in_any_case turn)) (leaves n rule (Both last))
      (joined kept _ _ (bound (Head n) n rule s) (bound (Head n) n rule (views.in_any_case turn))
      (bound_at (Head n) n rule s k kept first)
      (bound_at (Head n) n rule (views.in_any_case turn) (in_any_case b) _ (ap in_any_case again ∙ any_same x (knows x d) (interprets x h d) turn)))
      (leaves_at n rule (Both last) (both f) _ (both_at x h d last f same))

  loop_same : (functions : List Text) (y : e.Around) (n : ℕ) (s : Seen) (kind : LoopKind) (condition body : p.Items) (kept : K)
      → g.all kept (r.kind_bounds functions y n s (p.Loop kind condition body)) ≡ compound_told a x n (knows x d s) (p.Loop kind condition body) kept
  unfolding compound_told loop_told r.kind_bounds
  loop_same functions y n s kind condition body kept =
      let o = items_after (Both (at (Head n))) condition in
      let turn = items_after (Both (e.turns kind o)) body in
      let c = list_left x (known_at x (Head n)) condition in
      let same : c ≡ left x h d o = list_at x h d (at (Head n)) (known_at x (Head n)) condition (slot_at x h d (Head n)) in
      looped n F7 s turn (e.ends kind o) (knows x d s) (ends kind c) (list_left x (turns kind c) body) kept refl
      (list_at x h d (e.turns kind o) (turns kind c) body (ap (turns kind) same ∙ turns_same x (knows x d) (interprets x h d) kind o))
      (ap (ends kind) same ∙ ends_same x h d kind o)

  for_same : (functions : List Text) (y : e.Around) (n : ℕ) (s : Seen) (name : Text) (ws : p.ForWords) (body : p.Items) (kept : K)
      → g.all kept (r.kind_bounds functions y n s (p.For name ws body)) ≡ compound_told a x n (knows x d s) (p.For name ws body) kept
  unfolding compound_told for_told r.kind_bounds
  for_same functions y n s name ws body kept =
      let inner = gaining_names (name ∷ []) (at (Head n)) in
      looped n F8 (e.behind_list ws s) (items_after (Both inner) body) (at (Head n)) (behind_list x ws (knows x d s)) (known_at x (Head n))
      (list_left x (gained x (named (name ∷ [])) (known_at x (Head n))) body) kept
      (behind_same x h d ws s)
      (list_at x h d inner _ body (ap (gained x (named (name ∷ []))) (slot_at x h d (Head n)) ∙ sym ((interprets x h d).gain (named (name ∷ [])) (at (Head n)))))
      (slot_at x h d (Head n))

  case_same : (functions : List Text) (y : e.Around) (n : ℕ) (s : Seen) (w : p.Word) (cs : p.Clauses) (kept : K)
      → g.all kept (r.kind_bounds functions y n s (p.Case w cs)) ≡ compound_told a x n (knows x d s) (p.Case w cs) kept
  unfolding compound_told r.kind_bounds
  case_same functions y n s w cs kept =
      let gains = word_gains w in
      let after : gained x gains (knows x d s) ≡ knows x d (gaining gains s) = sym ((interprets x h d).gain gains s) in
      joined kept _ _ (r.clauses_bounds n (gaining gains s) [] cs) (if r.matches_always cs then [] else bound (AfterZero n) n F9 (gaining gains s))
      (sym (clauses_same n (gaining gains s) [] kept cs) ∙ ap₂ (λ k f. (clauses_told a x n k (trail f kept) cs).kept) (sym after) (interprets x h d).nothing)
      (unmatched_same n (r.matches_always cs) (gaining gains s) (gained x gains (knows x d s)) _ after)

  define_same : (functions : List Text) (y : e.Around) (n : ℕ) (s : Seen) (name : Text) (body : p.Command) (kept : K)
      → g.all kept (r.kind_bounds functions y n s (p.Define name body)) ≡ compound_told a x n (knows x d s) (p.Define name body) kept
  unfolding compound_told r.kind_bounds
  define_same functions y n s name body kept =
      joined kept _ _ (bound (AfterZero n) n F13 (stepped (views.Define name) (at (Before n)))) (r.body_bounds name body)
      (bound_at (AfterZero n) n F13 (stepped (views.Define name) (at (Before n))) (defined x name (known_at x (Before n))) kept
      (ap (defined x name) (slot_at x h d (Before n)) ∙ defined_same x h d name (at (Before n))))
      (body_same name body _)

  conditional_same : (functions : List Text) (y : e.Around) (n : ℕ) (s : Seen) (bs : p.Branches) (t : p.Otherwise) (kept : K)
      → g.all kept (r.kind_bounds functions y n s (p.Conditional bs t)) ≡ compound_told a x n (knows x d s) (p.Conditional bs t) kept
  unfolding compound_told r.kind_bounds
  conditional_same functions y n s bs t kept =
      g.joined kept (r.branches_bounds n s bs) (r.otherwise_bounds n (otherwise_seen s bs) t)
      ∙ otherwise_same n (otherwise_seen s bs) (g.all kept (r.branches_bounds n s bs)) t
      ∙ ap (λ u. otherwise_told a x n u t) (sym (branches_same n s kept bs))

  pub group_same : (functions : List Text) (y : e.Around) (n : ℕ) (s : Seen) (list : p.Items) (kept : K)
      → g.all kept (r.kind_bounds functions y n s (p.Group list)) ≡ compound_told a x n (knows x d s) (p.Group list) kept
  unfolding compound_told r.kind_bounds
  group_same functions y n s list kept = leaves_at n F10 (items_after (Both s) list) (list_left x (knows x d s) list) kept (list_at x h d s (knows x d s) list refl)

  pub subshell_same : (functions : List Text) (y : e.Around) (n : ℕ) (s : Seen) (list : p.Items) (kept : K)
      → g.all kept (r.kind_bounds functions y n s (p.Subshell list)) ≡ compound_told a x n (knows x d s) (p.Subshell list) kept
  unfolding compound_told r.kind_bounds
  subshell_same functions y n s list kept =
      leaves_at n F11 (Both (at (Before n))) (both (known_at x (Before n))) kept (both_at x h d (at (Before n)) (known_at x (Before n)) (slot_at x h d (Before n)))

  pub kind_same : (functions : List Text) (y : e.Around) (n : ℕ) (s : Seen) (k : p.Kind) (kept : K) → is_compound k ≡ true
      → g.all kept (r.kind_bounds functions y n s k) ≡ compound_told a x n (knows x d s) k kept
  unfolding is_compound
  kind_same functions y n s (p.Simple es) kept it = absurd (true≢false (sym it))
  kind_same functions y n s (p.Group list) kept it = group_same functions y n s list kept
  kind_same functions y n s (p.Subshell list) kept it = subshell_same functions y n s list kept
  kind_same functions y n s (p.Conditional bs t) kept it = conditional_same functions y n s bs t kept
  kind_same functions y n s (p.Loop kind condition body) kept it = loop_same functions y n s kind condition body kept
  kind_same functions y n s (p.For name ws body) kept it = for_same functions y n s name ws body kept
  kind_same functions y n s (p.Case w cs) kept it = case_same functions y n s w cs kept
  kind_same functions y n s (p.Define name body) kept it = define_same functions y n s name body kept
