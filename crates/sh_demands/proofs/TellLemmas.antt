-- What is judged of words of numbered names is what the demands say.
use Rattle.std.proofs.Common.{◌≡◌, ℕ, Bool, true, ◌&&◌, List, [], ◌∷◌, ◌++◌, append_assoc, append-nil, refl, sym, ap, ap₂, ◌∙◌}
use Rattle.std.specs.List.{filter, list_all}
use Rattle.std.proofs.lemmas.Bool.{and_parts}
use Rattle.std.proofs.lemmas.List.Folds.{list_all-append}
use Rattle.sh_tree.specs.declared.place.Place.{Place}
use Rattle.sh_tree.specs.declared.tree.Action.TheVariants as action
use Rattle.sh_tree.specs.declared.tree.Binary.{Binary}
use Rattle.sh_tree.specs.declared.tree.Binary.TheVariants as binary
use Rattle.sh_tree.specs.standard.program.Syntax as p
use Rattle.sh_tree.specs.standard.program.Syntax.{Text}
use Rattle.sh_runs.specs.standard.runs.Environment.{is_one_of}
use Rattle.sh_domain.specs.Facts.{Facts}
use Rattle.sh_domain.specs.Gains.{Gains, no_gains, and_gains, named, sure, surely, assigned_in, operands_assigned, part_gains, word_gains, operator_gains, expanded_gains, operands_gains, with_gains}
use Rattle.sh_domain.specs.Needs.{needed, reads_unmet, part_unmet, word_unmet, operator_unmet, expanded_unmet, operands_expanded}
use Rattle.sh_gains.specs.Knowing.{Knowing, gained, action_gains, inner_gains}
use Rattle.sh_demands.specs.Judged.{judged, part_judged, word_judged, operator_judged, expanded_judged, operands_judged}
use Rattle.sh_demands.specs.Within.{part_within, word_within, operator_within, expression_within, operands_within}
use Rattle.sh_demands.specs.Tellings.{WordsTell, known_as}
use Rattle.sh_gains.proofs.KnowingLemmas.{gained_none, gained_both}

-- Names that pass

pub both_pass : (q : Text → Bool) (xs ys : List Text) → list_all q xs ≡ true → list_all q ys ≡ true → list_all q (xs ++ ys) ≡ true
both_pass q xs ys h k = list_all-append q xs ys ∙ ap₂ (λ a b. a && b) h k

all_kept : (q : Text → Bool) (xs : List Text) → list_all q xs ≡ true → filter q xs ≡ xs
all_kept q [] h = refl
all_kept q (x ∷ xs) h = let both = and_parts (q x) (list_all q xs) h in rw (both.0) (ap (λ ys. x ∷ ys) (all_kept q xs both.1))

surely_pass : (q : Text → Bool) (o : Binary) (xs : List Text) → list_all q xs ≡ true → list_all q (surely o xs) ≡ true
unfolding surely
surely_pass q binary.And xs h = refl
surely_pass q binary.Or xs h = refl
surely_pass q _ xs h = h

mutual
  unfolding expression_within assigned_in part_within

  assigned_pass : (q : Text → Bool) (e : p.Expression) → expression_within q e ≡ true → list_all q (assigned_in e) ≡ true
  assigned_pass q (p.Parenthesis e) h = assigned_pass q e h
  assigned_pass q (p.Signed operator e) h = assigned_pass q e h
  assigned_pass q (p.Chain e rest) h =
      let both = and_parts (expression_within q e) (operands_within q rest) h in
      both_pass q (assigned_in e) (operands_assigned rest) (assigned_pass q e both.0) (operands_pass q rest both.1)
  assigned_pass q (p.Choice e y n) h = assigned_pass q e (and_parts (expression_within q e) (expression_within q y && expression_within q n) h).0
  assigned_pass q (p.Assigned at name operator e) h =
      let both = and_parts (q name) (expression_within q e) h in
      ap₂ (λ a b. a && b) both.0 (assigned_pass q e both.1)
  assigned_pass q _ h = refl

  operands_pass : (q : Text → Bool) (rest : p.Operands) → operands_within q rest ≡ true → list_all q (operands_assigned rest) ≡ true
  operands_pass q p.no_operands h = refl
  operands_pass q (p.more_operands operator e rest) h =
      let both = and_parts (expression_within q e) (operands_within q rest) h in
      both_pass q (surely operator (assigned_in e)) (operands_assigned rest) (surely_pass q operator (assigned_in e) (assigned_pass q e both.0)) (operands_pass q rest both.1)

operator_pass : (q : Text → Bool) (x : p.Parameter) (o : p.Operator) → list_all q (sure x).names ≡ true → list_all q (operator_gains x o).names ≡ true
unfolding operator_gains
operator_pass q x (p.Use action.Assign colon w) h = h
operator_pass q x (p.Use action.Fault colon w) h = h
operator_pass q x _ h = refl

mutual
  unfolding part_within part_gains

  part_pass : (q : Text → Bool) (x : p.Part) → part_within q x ≡ true → list_all q (part_gains x).names ≡ true
  part_pass q (p.Double w) h = word_pass q w h
  part_pass q (p.Expansion at x o) h = operator_pass q x o (and_parts (list_all q (sure x).names) (operator_within q o) h).0
  part_pass q (p.Arithmetic at e) h = both_pass q (expanded_gains e).names (assigned_in e) (expanded_pass q e h) (assigned_pass q e h)
  part_pass q _ h = refl

  pub word_pass : (q : Text → Bool) (w : p.Word) → word_within q w ≡ true → list_all q (word_gains w).names ≡ true
  word_pass q p.no_parts h = refl
  word_pass q (p.more_parts x w) h =
      let both = and_parts (part_within q x) (word_within q w) h in
      both_pass q (part_gains x).names (word_gains w).names (part_pass q x both.0) (word_pass q w both.1)

  expanded_pass : (q : Text → Bool) (e : p.Expression) → expression_within q e ≡ true → list_all q (expanded_gains e).names ≡ true
  expanded_pass q (p.Expanded x) h = part_pass q x h
  expanded_pass q (p.Parenthesis e) h = expanded_pass q e h
  expanded_pass q (p.Signed operator e) h = expanded_pass q e h
  expanded_pass q (p.Chain e rest) h =
      let both = and_parts (expression_within q e) (operands_within q rest) h in
      both_pass q (expanded_gains e).names (operands_gains rest).names (expanded_pass q e both.0) (each_pass q rest both.1)
  expanded_pass q (p.Choice e y n) h =
      let both = and_parts (expression_within q e) (expression_within q y && expression_within q n) h in
      let branches = and_parts (expression_within q y) (expression_within q n) both.1 in
      both_pass q (expanded_gains e).names ((expanded_gains y).names ++ (expanded_gains n).names) (expanded_pass q e both.0)
      (both_pass q (expanded_gains y).names (expanded_gains n).names (expanded_pass q y branches.0) (expanded_pass q n branches.1))
  expanded_pass q (p.Assigned at name operator e) h = expanded_pass q e (and_parts (q name) (expression_within q e) h).1
  expanded_pass q _ h = refl

  each_pass : (q : Text → Bool) (rest : p.Operands) → operands_within q rest ≡ true → list_all q (operands_gains rest).names ≡ true
  each_pass q p.no_operands h = refl
  each_pass q (p.more_operands operator e rest) h =
      let both = and_parts (expression_within q e) (operands_within q rest) h in
      both_pass q (expanded_gains e).names (operands_gains rest).names (expanded_pass q e both.0) (each_pass q rest both.1)

-- What is gained of these names

pub gained_whole : (g : Gains) (k : Knowing) → list_all (is_one_of k.names) g.names ≡ true → gained g k ≡ known_as k (with_gains g k.facts)
unfolding gained
gained_whole g k h = ap (λ xs. known_as k (with_gains (record { names = xs; args = g.args }) k.facts)) (all_kept (is_one_of k.names) g.names h)

pub facts_whole : (g : Gains) (k : Knowing) → list_all (is_one_of k.names) g.names ≡ true → (gained g k).facts ≡ with_gains g k.facts
facts_whole g k h = ap (λ (x : Knowing). x.facts) (gained_whole g k h)

-- What is judged

-- nothing is gained and nothing reported
pub still : (k : Knowing) (ps : List Place) → judged k ps ≡ judged (gained no_gains k) (ps ++ [])
still k ps = ap₂ judged (sym (gained_none k)) (sym (append-nil ps))

-- this is reported and nothing gained
noted_here : (k : Knowing) (ps qs : List Place) → judged k (ps ++ qs) ≡ judged (gained no_gains k) (ps ++ qs)
noted_here k ps qs = ap (λ x. judged x (ps ++ qs)) (sym (gained_none k))

-- one piece after another
pub in_turn : (g h : Gains) (k : Knowing) (ps : List Place) (one : List Place) (two : Facts → List Place) → list_all (is_one_of k.names) g.names ≡ true
    → judged (gained h (gained g k)) ((ps ++ one) ++ two (gained g k).facts)
    ≡ judged (gained (and_gains g h) k) (ps ++ (one ++ two (with_gains g k.facts)))
in_turn g h k ps one two pass =
    ap₂ judged (sym (gained_both g h k)) (ap (λ f. (ps ++ one) ++ two f) (facts_whole g k pass) ∙ append_assoc ps one (two (with_gains g k.facts)))

mutual
  unfolding part_judged part_unmet part_gains part_within gained operator_gains action_gains inner_gains

  part_tells : (x : p.Part) (k : Knowing) (ps : List Place) → part_within (is_one_of k.names) x ≡ true
      → part_judged (judged k ps) x ≡ judged (gained (part_gains x) k) (ps ++ part_unmet k.facts x)
  part_tells (p.Double w) k ps h = word_told w k ps h
  part_tells (p.Expansion at x o) k ps h = operator_tells o at x k ps (and_parts (list_all (is_one_of k.names) (sure x).names) (operator_within (is_one_of k.names) o) h)
  part_tells (p.Arithmetic at e) k ps h =
      ap (λ s. judged (gained (named (assigned_in e)) s.known) (s.places ++ reads_unmet s.known.facts e)) (expanded_tells e k ps h)
      ∙ in_turn (expanded_gains e) (named (assigned_in e)) k ps (expanded_unmet k.facts e) (λ f. reads_unmet f e) (expanded_pass (is_one_of k.names) e h)
  part_tells (p.Tilde at []) k ps h = noted_here k ps _
  part_tells _ k ps h = still k ps

  pub word_told : (w : p.Word) (k : Knowing) (ps : List Place) → word_within (is_one_of k.names) w ≡ true
      → word_judged (judged k ps) w ≡ judged (gained (word_gains w) k) (ps ++ word_unmet k.facts w)
  word_told p.no_parts k ps h = still k ps
  word_told (p.more_parts x w) k ps h =
      let both = and_parts (part_within (is_one_of k.names) x) (word_within (is_one_of k.names) w) h in
      ap (λ s. word_judged s w) (part_tells x k ps both.0)
      ∙ word_told w (gained (part_gains x) k) (ps ++ part_unmet k.facts x) both.1
      ∙ in_turn (part_gains x) (word_gains w) k ps (part_unmet k.facts x) (λ f. word_unmet f w) (part_pass (is_one_of k.names) x both.0)

  operator_tells : (o : p.Operator) (at : ℕ) (x : p.Parameter) (k : Knowing) (ps : List Place)
      → (list_all (is_one_of k.names) (sure x).names ≡ true) × (operator_within (is_one_of k.names) o ≡ true)
      → operator_judged (judged k ps) at x o ≡ judged (gained (operator_gains x o) k) (ps ++ operator_unmet k.facts at x o)
  operator_tells p.Value at x k ps h = noted_here k ps (needed k.facts at x)
  operator_tells p.Length at x k ps h = noted_here k ps (needed k.facts at x)
  operator_tells (p.Remove by w) at x k ps h =
      ap (λ s. judged k s.places) (word_told w k (ps ++ needed k.facts at x) h.1)
      ∙ ap (judged k) (append_assoc ps (needed k.facts at x) (word_unmet k.facts w))
      ∙ noted_here k ps (needed k.facts at x ++ word_unmet k.facts w)
  operator_tells (p.Use action.Default colon w) at x k ps h =
      ap (λ s. judged (gained no_gains k) s.places) (ap (λ y. word_judged (judged y ps) w) (gained_none k) ∙ word_told w k ps h.1)
  operator_tells (p.Use action.Assign colon w) at x k ps h =
      ap (λ s. judged (gained (sure x) k) s.places) (ap (λ y. word_judged (judged y ps) w) (gained_none k) ∙ word_told w k ps h.1)
  operator_tells (p.Use action.Fault colon w) at x k ps h =
      ap (λ s. judged (gained (sure x) k) s.places) (ap (λ y. word_judged (judged y ps) w) (gained_none k) ∙ word_told w k ps h.1)
  operator_tells (p.Use action.Alternative colon w) at x k ps h =
      ap (λ s. judged (gained no_gains k) s.places) (word_told w (gained (sure x) k) ps h.1)
      ∙ ap (λ f. judged (gained no_gains k) (ps ++ word_unmet f w)) (facts_whole (sure x) k h.0)

  expanded_tells : (e : p.Expression) (k : Knowing) (ps : List Place) → expression_within (is_one_of k.names) e ≡ true
      → expanded_judged (judged k ps) e ≡ judged (gained (expanded_gains e) k) (ps ++ expanded_unmet k.facts e)
  expanded_tells (p.Expanded x) k ps h = part_tells x k ps h
  expanded_tells (p.Parenthesis e) k ps h = expanded_tells e k ps h
  expanded_tells (p.Signed operator e) k ps h = expanded_tells e k ps h
  expanded_tells (p.Chain e rest) k ps h =
      let both = and_parts (expression_within (is_one_of k.names) e) (operands_within (is_one_of k.names) rest) h in
      ap (λ s. operands_judged s rest) (expanded_tells e k ps both.0)
      ∙ operands_tell rest (gained (expanded_gains e) k) (ps ++ expanded_unmet k.facts e) both.1
      ∙ in_turn (expanded_gains e) (operands_gains rest) k ps (expanded_unmet k.facts e) (λ f. operands_expanded f rest) (expanded_pass (is_one_of k.names) e both.0)
  expanded_tells (p.Choice e y n) k ps h =
      let q = is_one_of k.names in
      let both = and_parts (expression_within q e) (expression_within q y && expression_within q n) h in
      let branches = and_parts (expression_within q y) (expression_within q n) both.1 in
      let first = gained (expanded_gains e) k in
      let here = ps ++ expanded_unmet k.facts e in
      ap (λ s. expanded_judged (expanded_judged s y) n) (expanded_tells e k ps both.0)
      ∙ ap (λ s. expanded_judged s n) (expanded_tells y first here branches.0)
      ∙ expanded_tells n (gained (expanded_gains y) first) (here ++ expanded_unmet first.facts y) branches.1
      ∙ in_turn (expanded_gains y) (expanded_gains n) first here (expanded_unmet first.facts y) (λ f. expanded_unmet f n) (expanded_pass q y branches.0)
      ∙ in_turn (expanded_gains e) (and_gains (expanded_gains y) (expanded_gains n)) k ps (expanded_unmet k.facts e)
      (λ f. expanded_unmet f y ++ expanded_unmet (with_gains (expanded_gains y) f) n) (expanded_pass q e both.0)
      ∙ ap (λ qs. judged (gained (expanded_gains (p.Choice e y n)) k) (ps ++ qs))
      (sym (append_assoc (expanded_unmet k.facts e) (expanded_unmet (with_gains (expanded_gains e) k.facts) y)
      (expanded_unmet (with_gains (expanded_gains y) (with_gains (expanded_gains e) k.facts)) n)))
  expanded_tells (p.Assigned at name operator e) k ps h = expanded_tells e k ps (and_parts (is_one_of k.names name) (expression_within (is_one_of k.names) e) h).1
  expanded_tells _ k ps h = still k ps

  operands_tell : (rest : p.Operands) (k : Knowing) (ps : List Place) → operands_within (is_one_of k.names) rest ≡ true
      → operands_judged (judged k ps) rest ≡ judged (gained (operands_gains rest) k) (ps ++ operands_expanded k.facts rest)
  operands_tell p.no_operands k ps h = still k ps
  operands_tell (p.more_operands operator e rest) k ps h =
      let both = and_parts (expression_within (is_one_of k.names) e) (operands_within (is_one_of k.names) rest) h in
      ap (λ s. operands_judged s rest) (expanded_tells e k ps both.0)
      ∙ operands_tell rest (gained (expanded_gains e) k) (ps ++ expanded_unmet k.facts e) both.1
      ∙ in_turn (expanded_gains e) (operands_gains rest) k ps (expanded_unmet k.facts e) (λ f. operands_expanded f rest) (expanded_pass (is_one_of k.names) e both.0)

pub words_tell : WordsTell
words_tell = record {
  gains = gained_whole;
  word = λ w k ps h. word_told w k ps h
      ∙ ap (λ x. judged x (ps ++ word_unmet k.facts w)) (gained_whole (word_gains w) k (word_pass (is_one_of k.names) w h));
}
