-- How many commands of a piece of a program have a number, by the pieces in it.
use Rattle.std.proofs.Common.{◌≡◌, ℕ, zero, suc, ◌+◌, ◌<◌, ◌≤◌, ◌==◌, Bool, cond, nat_le, List, [], ◌∷◌, ◌++◌, map, length, get_or, Option, refl, ap, ◌∙◌, arith, eq-eqb, true≢false, sym, true, false}
use Rattle.std.specs.List.{Contains}
use Rattle.std.proofs.lemmas.Bool.Decides.{nat_tests}
use Rattle.sh_tree.specs.declared.tree.Action.{Action}
use Rattle.sh_tree.specs.declared.tree.Binary.{Binary}
use Rattle.sh_tree.specs.declared.tree.ClauseEnd.{ClauseEnd}
use Rattle.sh_tree.specs.declared.tree.Link.{Link}
use Rattle.sh_tree.specs.declared.tree.LoopKind.{LoopKind}
use Rattle.sh_tree.specs.declared.tree.Removal.{Removal}
use Rattle.sh_tree.specs.declared.tree.SingleStyle.{SingleStyle}
use Rattle.sh_tree.specs.declared.tree.Unary.{Unary}
use Rattle.sh_tree.specs.standard.program.Syntax as p
use Rattle.sh_tree.specs.standard.program.Syntax.{Text}
use Rattle.sh_runs.specs.Surroundings.{Surroundings, Located, outside, in_loop, in_function, in_part, in_item, branches_located, clauses_located, command_located, commands_located, elements_located, expression_located, for_words_located, items_located, kind_located, links_located, list_located, operands_located, operator_located, otherwise_located, part_located, pipeline_located, redirect_located, redirects_located, word_located, words_located}
use Rattle.sh_runs.specs.Sites.{site_of}
use Rattle.sh_domain.specs.Readings.{command_number}
use Rattle.sh_reads.specs.Spots.{EachOnce}

-- how many of the commands have the number
unfoldable pub held : ℕ → List Located → ℕ
held n [] = 0
held n (l ∷ ls) = cond (command_number l == n) 1 0 + held n ls

-- one more number is given
pub next_given : (n count : ℕ) → cond (count + 1 == n) 1 0 + cond (nat_le n count) 1 0 ≡ cond (nat_le n (count + 1)) 1 0
next_given n count = grind (arith, nat_tests)

-- if no number is held twice, no two commands have one

first_some : (t : Bool) (m : ℕ) → t ≡ true → 0 < cond t 1 0 + m
first_some true m e = omega arith
first_some false m e = absurd (true≢false (sym e))

next_some : (t : Bool) (m : ℕ) → 0 < m → 0 < cond t 1 0 + m
next_some t m h = omega arith

not_both : (t : Bool) (m : ℕ) → t ≡ true → 0 < m → cond t 1 0 + m ≤ 1 → ⊥
not_both true m e h k = omega arith
not_both false m e h k = true≢false (sym e)

rest_most : (t : Bool) (m : ℕ) → cond t 1 0 + m ≤ 1 → m ≤ 1
rest_most t m h = omega arith

held_some : (n : ℕ) (ls : List Located) → Contains (map command_number ls) n → 0 < held n ls
unfolding held
held_some n ls h = go ls h.0 h.1 h.2
  where
    go : (ls : List Located) (k : ℕ) → k < length (map command_number ls) → get_or (map command_number ls) k n ≡ n → 0 < held n ls
    go [] k l e = absurd (omega arith)
    go (z ∷ zs) zero l e = first_some (command_number z == n) (held n zs) (eq-eqb (command_number z) n e)
    go (z ∷ zs) (suc k) l e = next_some (command_number z == n) (held n zs) (go zs k (omega arith) e)

pub numbers_from_held : (ls : List Located) → ((n : ℕ) → held n ls ≤ 1) → EachOnce (map command_number ls)
unfolding EachOnce held
numbers_from_held [] h = tt
numbers_from_held (l ∷ ls) h = (
  (λ k.
      let n = command_number l in
      not_both (n == n) (held n ls) (eq-eqb n n refl) (held_some n ls k) (h n)),
  numbers_from_held ls (λ n. rest_most (command_number l == n) (held n ls) (h n)),
)

pub held_join : (n : ℕ) (xs ys : List Located) → held n (xs ++ ys) ≡ held n xs + held n ys
unfolding held
held_join n [] ys = omega arith
held_join n (x ∷ xs) ys = let rest = held_join n xs ys in omega arith

module _ (n : ℕ) where
  none : held n [] ≡ 0
  unfolding held
  none = refl

  three : (xs ys zs : List Located) → held n (xs ++ ys ++ zs) ≡ held n xs + held n ys + held n zs
  three xs ys zs = held_join n (xs ++ ys) zs ∙ ap (λ k. k + held n zs) (held_join n xs ys)

  pub held_command : (y : Surroundings) (m at : ℕ) (k : p.Kind) (rs : p.Redirects)
      → held n (command_located y (p.command m at k rs)) ≡ cond (m == n) 1 0 + (held n (kind_located y k) + held n (redirects_located rs))
  unfolding items_located held site_of
  held_command y m at k rs = ap (λ j. cond (m == n) 1 0 + j) (held_join n (kind_located y k) (redirects_located rs))

  pub held_no_parts : held n (word_located p.no_parts) ≡ 0
  unfolding items_located
  held_no_parts = none

  pub held_parts : (x : p.Part) (w : p.Word) → held n (word_located (p.more_parts x w)) ≡ held n (part_located x) + held n (word_located w)
  unfolding items_located
  held_parts x w = held_join n (part_located x) (word_located w)

  pub held_plain : (t : Text) → held n (part_located (p.Plain t)) ≡ 0
  unfolding items_located
  held_plain t = none

  pub held_escaped : (t : Text) → held n (part_located (p.Escaped t)) ≡ 0
  unfolding items_located
  held_escaped t = none

  pub held_single : (style : SingleStyle) (t : Text) → held n (part_located (p.Single style t)) ≡ 0
  unfolding items_located
  held_single style t = none

  pub held_joined : held n (part_located p.Joined) ≡ 0
  unfolding items_located
  held_joined = none

  pub held_tilde : (at : ℕ) (t : Text) → held n (part_located (p.Tilde at t)) ≡ 0
  unfolding items_located
  held_tilde at t = none

  pub held_double : (w : p.Word) → held n (part_located (p.Double w)) ≡ held n (word_located w)
  unfolding items_located
  held_double w = refl

  pub held_expansion : (at : ℕ) (x : p.Parameter) (o : p.Operator) → held n (part_located (p.Expansion at x o)) ≡ held n (operator_located o)
  unfolding items_located
  held_expansion at x o = refl

  pub held_arithmetic : (at : ℕ) (e : p.Expression) → held n (part_located (p.Arithmetic at e)) ≡ held n (expression_located e)
  unfolding items_located
  held_arithmetic at e = refl

  pub held_substitution : (at : ℕ) (t : p.Items) → held n (part_located (p.Substitution at t)) ≡ held n (items_located outside t)
  unfolding items_located
  held_substitution at t = refl

  pub held_value : held n (operator_located p.Value) ≡ 0
  unfolding items_located
  held_value = none

  pub held_length : held n (operator_located p.Length) ≡ 0
  unfolding items_located
  held_length = none

  pub held_use : (a : Action) (colon : Bool) (w : p.Word) → held n (operator_located (p.Use a colon w)) ≡ held n (word_located w)
  unfolding items_located
  held_use a colon w = refl

  pub held_remove : (r : Removal) (w : p.Word) → held n (operator_located (p.Remove r w)) ≡ held n (word_located w)
  unfolding items_located
  held_remove r w = refl

  pub held_constant : (t : Text) → held n (expression_located (p.Constant t)) ≡ 0
  unfolding items_located
  held_constant t = none

  pub held_name : (at : ℕ) (t : Text) → held n (expression_located (p.Name at t)) ≡ 0
  unfolding items_located
  held_name at t = none

  pub held_expanded : (x : p.Part) → held n (expression_located (p.Expanded x)) ≡ held n (part_located x)
  unfolding items_located
  held_expanded x = refl

  pub held_parenthesis : (e : p.Expression) → held n (expression_located (p.Parenthesis e)) ≡ held n (expression_located e)
  unfolding items_located
  held_parenthesis e = refl

  pub held_signed : (o : Unary) (e : p.Expression) → held n (expression_located (p.Signed o e)) ≡ held n (expression_located e)
  unfolding items_located
  held_signed o e = refl

  pub held_chain : (e : p.Expression) (es : p.Operands) → held n (expression_located (p.Chain e es)) ≡ held n (expression_located e) + held n (operands_located es)
  unfolding items_located
  held_chain e es = held_join n (expression_located e) (operands_located es)

  pub held_choice : (e v w : p.Expression) → held n (expression_located (p.Choice e v w)) ≡ held n (expression_located e) + held n (expression_located v) + held n (expression_located w)
  unfolding items_located
  held_choice e v w = three (expression_located e) (expression_located v) (expression_located w)

  pub held_assigned : (at : ℕ) (t : Text) (o : Option Binary) (e : p.Expression) → held n (expression_located (p.Assigned at t o e)) ≡ held n (expression_located e)
  unfolding items_located
  held_assigned at t o e = refl

  pub held_no_operands : held n (operands_located p.no_operands) ≡ 0
  unfolding items_located
  held_no_operands = none

  pub held_operands : (o : Binary) (e : p.Expression) (es : p.Operands) → held n (operands_located (p.more_operands o e es)) ≡ held n (expression_located e) + held n (operands_located es)
  unfolding items_located
  held_operands o e es = held_join n (expression_located e) (operands_located es)

  pub held_no_words : held n (words_located p.no_words) ≡ 0
  unfolding items_located
  held_no_words = none

  pub held_words : (w : p.Word) (ws : p.Words) → held n (words_located (p.more_words w ws)) ≡ held n (word_located w) + held n (words_located ws)
  unfolding items_located
  held_words w ws = held_join n (word_located w) (words_located ws)

  pub held_every : held n (for_words_located p.every_parameter) ≡ 0
  unfolding items_located
  held_every = none

  pub held_listed : (ws : p.Words) → held n (for_words_located (p.listed ws)) ≡ held n (words_located ws)
  unfolding items_located
  held_listed ws = refl

  pub held_file : (w : p.Word) → held n (redirect_located (p.File w)) ≡ held n (word_located w)
  unfolding items_located
  held_file w = refl

  pub held_here : (w : p.Word) → held n (redirect_located (p.Here w)) ≡ held n (word_located w)
  unfolding items_located
  held_here w = refl

  pub held_no_redirects : held n (redirects_located p.no_redirects) ≡ 0
  unfolding items_located
  held_no_redirects = none

  pub held_redirects : (r : p.Redirect) (rs : p.Redirects) → held n (redirects_located (p.more_redirects r rs)) ≡ held n (redirect_located r) + held n (redirects_located rs)
  unfolding items_located
  held_redirects r rs = held_join n (redirect_located r) (redirects_located rs)

  pub held_no_elements : held n (elements_located p.no_elements) ≡ 0
  unfolding items_located
  held_no_elements = none

  pub held_assignment : (t : Text) (w : p.Word) (es : p.Elements) → held n (elements_located (p.assignment t w es)) ≡ held n (word_located w) + held n (elements_located es)
  unfolding items_located
  held_assignment t w es = held_join n (word_located w) (elements_located es)

  pub held_operand : (w : p.Word) (es : p.Elements) → held n (elements_located (p.operand w es)) ≡ held n (word_located w) + held n (elements_located es)
  unfolding items_located
  held_operand w es = held_join n (word_located w) (elements_located es)

  pub held_redirection : (r : p.Redirect) (es : p.Elements) → held n (elements_located (p.redirection r es)) ≡ held n (redirect_located r) + held n (elements_located es)
  unfolding items_located
  held_redirection r es = held_join n (redirect_located r) (elements_located es)

  pub held_simple : (y : Surroundings) (es : p.Elements) → held n (kind_located y (p.Simple es)) ≡ held n (elements_located es)
  unfolding items_located
  held_simple y es = refl

  pub held_group : (y : Surroundings) (t : p.Items) → held n (kind_located y (p.Group t)) ≡ held n (items_located y t)
  unfolding items_located
  held_group y t = refl

  pub held_subshell : (y : Surroundings) (t : p.Items) → held n (kind_located y (p.Subshell t)) ≡ held n (items_located outside t)
  unfolding items_located
  held_subshell y t = refl

  pub held_conditional : (y : Surroundings) (bs : p.Branches) (o : p.Otherwise) → held n (kind_located y (p.Conditional bs o)) ≡ held n (branches_located y bs) + held n (otherwise_located y o)
  unfolding items_located
  held_conditional y bs o = held_join n (branches_located y bs) (otherwise_located y o)

  pub held_loop : (y : Surroundings) (k : LoopKind) (c t : p.Items) → held n (kind_located y (p.Loop k c t)) ≡ held n (items_located (in_loop y) c) + held n (items_located (in_loop y) t)
  unfolding items_located
  held_loop y k c t = held_join n (items_located (in_loop y) c) (items_located (in_loop y) t)

  pub held_for : (y : Surroundings) (name : Text) (ws : p.ForWords) (t : p.Items) → held n (kind_located y (p.For name ws t)) ≡ held n (for_words_located ws) + held n (items_located (in_loop y) t)
  unfolding items_located
  held_for y name ws t = held_join n (for_words_located ws) (items_located (in_loop y) t)

  pub held_case : (y : Surroundings) (w : p.Word) (cs : p.Clauses) → held n (kind_located y (p.Case w cs)) ≡ held n (word_located w) + held n (clauses_located y cs)
  unfolding items_located
  held_case y w cs = held_join n (word_located w) (clauses_located y cs)

  pub held_define : (y : Surroundings) (name : Text) (c : p.Command) → held n (kind_located y (p.Define name c)) ≡ held n (command_located in_function c)
  unfolding items_located
  held_define y name c = refl

  pub held_no_branches : (y : Surroundings) → held n (branches_located y p.no_branches) ≡ 0
  unfolding items_located
  held_no_branches y = none

  pub held_branches : (y : Surroundings) (c t : p.Items) (bs : p.Branches) → held n (branches_located y (p.more_branches c t bs)) ≡ held n (items_located y c) + held n (items_located y t) + held n (branches_located y bs)
  unfolding items_located
  held_branches y c t bs = three (items_located y c) (items_located y t) (branches_located y bs)

  pub held_no_else : (y : Surroundings) → held n (otherwise_located y p.no_else) ≡ 0
  unfolding items_located
  held_no_else y = none

  pub held_else : (y : Surroundings) (t : p.Items) → held n (otherwise_located y (p.else_of t)) ≡ held n (items_located y t)
  unfolding items_located
  held_else y t = refl

  pub held_no_clauses : (y : Surroundings) → held n (clauses_located y p.no_clauses) ≡ 0
  unfolding items_located
  held_no_clauses y = none

  pub held_clauses : (y : Surroundings) (ws : p.Words) (t : p.Items) (e : ClauseEnd) (cs : p.Clauses) → held n (clauses_located y (p.more_clauses ws t e cs)) ≡ held n (words_located ws) + held n (items_located y t) + held n (clauses_located y cs)
  unfolding items_located
  held_clauses y ws t e cs = three (words_located ws) (items_located y t) (clauses_located y cs)

  pub held_no_commands : (y : Surroundings) → held n (commands_located y p.no_commands) ≡ 0
  unfolding items_located
  held_no_commands y = none

  pub held_commands : (y : Surroundings) (c : p.Command) (cs : p.Commands) → held n (commands_located y (p.more_commands c cs)) ≡ held n (command_located y c) + held n (commands_located y cs)
  unfolding items_located
  held_commands y c cs = held_join n (command_located y c) (commands_located y cs)

  pub held_pipeline : (y : Surroundings) (negated : Bool) (cs : p.Commands) → held n (pipeline_located y (p.pipeline negated cs)) ≡ held n (commands_located (in_part y cs) cs)
  unfolding items_located
  held_pipeline y negated cs = refl

  pub held_no_links : (y : Surroundings) → held n (links_located y p.no_links) ≡ 0
  unfolding items_located
  held_no_links y = none

  pub held_links : (y : Surroundings) (l : Link) (x : p.Pipeline) (ls : p.Links) → held n (links_located y (p.more_links l x ls)) ≡ held n (pipeline_located y x) + held n (links_located y ls)
  unfolding items_located
  held_links y l x ls = held_join n (pipeline_located y x) (links_located y ls)

  pub held_list : (y : Surroundings) (x : p.Pipeline) (ls : p.Links) → held n (list_located y (p.and_or x ls)) ≡ held n (pipeline_located y x) + held n (links_located y ls)
  unfolding items_located
  held_list y x ls = held_join n (pipeline_located y x) (links_located y ls)

  pub held_no_items : (y : Surroundings) → held n (items_located y p.no_items) ≡ 0
  unfolding items_located
  held_no_items y = none

  pub held_items : (y : Surroundings) (l : p.AndOr) (background : Bool) (is : p.Items) → held n (items_located y (p.more_items l background is)) ≡ held n (list_located (in_item y background) l) + held n (items_located y is)
  unfolding items_located
  held_items y l background is = held_join n (list_located (in_item y background) l) (items_located y is)
