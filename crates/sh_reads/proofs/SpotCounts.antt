-- How often a spot occurs in a piece of a program, by the pieces in it.
use Rattle.std.proofs.Common.{◌≡◌, ℕ, ◌+◌, Bool, List, [], ◌∷◌, ◌++◌, Option, refl, ap, ◌∙◌}
use Rattle.sh_tree.specs.declared.place.Place.{Place}
use Rattle.sh_tree.specs.declared.tree.Action.{Action}
use Rattle.sh_tree.specs.declared.tree.Binary.{Binary}
use Rattle.sh_tree.specs.declared.tree.ClauseEnd.{ClauseEnd}
use Rattle.sh_tree.specs.declared.tree.Link.{Link}
use Rattle.sh_tree.specs.declared.tree.LoopKind.{LoopKind}
use Rattle.sh_tree.specs.declared.tree.Removal.{Removal}
use Rattle.sh_tree.specs.declared.tree.SingleStyle.{SingleStyle}
use Rattle.sh_tree.specs.declared.tree.Unary.{Unary}
use Rattle.sh_tree.specs.standard.program.Syntax as p
use Rattle.sh_tree.specs.standard.program.Syntax.{Text}
use Rattle.sh_reads.specs.Spots.{Spot, OfCommand, OfWord, branches_spots, clauses_spots, command_spots, commands_spots, elements_spots, expression_spots, for_words_spots, items_spots, kind_spots, links_spots, list_spots, operands_spots, operator_spots, otherwise_spots, part_spots, pipeline_spots, redirect_spots, redirects_spots, word_spots, words_spots}
use Rattle.sh_reads.proofs.HitLemmas.{hits, hits_none, hits_join, hits_cons}

module _ (q : Place) where
  three : (xs ys zs : List Spot) → hits q (xs ++ ys ++ zs) ≡ hits q xs + hits q ys + hits q zs
  three xs ys zs = hits_join q (xs ++ ys) zs ∙ ap (λ n. n + hits q zs) (hits_join q xs ys)

  own : (s : Spot) (xs ys : List Spot) → hits q (s ∷ (xs ++ ys)) ≡ hits q (s ∷ []) + (hits q xs + hits q ys)
  own s xs ys = hits_cons q s (xs ++ ys) ∙ ap (λ n. hits q (s ∷ []) + n) (hits_join q xs ys)

  pub count_no_parts : hits q (word_spots p.no_parts) ≡ 0
  unfolding items_spots
  count_no_parts = hits_none q

  pub count_parts : (x : p.Part) (w : p.Word) → hits q (word_spots (p.more_parts x w)) ≡ hits q (part_spots x) + hits q (word_spots w)
  unfolding items_spots
  count_parts x w = hits_join q (part_spots x) (word_spots w)

  pub count_plain : (t : Text) → hits q (part_spots (p.Plain t)) ≡ 0
  unfolding items_spots
  count_plain t = hits_none q

  pub count_escaped : (t : Text) → hits q (part_spots (p.Escaped t)) ≡ 0
  unfolding items_spots
  count_escaped t = hits_none q

  pub count_single : (style : SingleStyle) (t : Text) → hits q (part_spots (p.Single style t)) ≡ 0
  unfolding items_spots
  count_single style t = hits_none q

  pub count_joined : hits q (part_spots p.Joined) ≡ 0
  unfolding items_spots
  count_joined = hits_none q

  pub count_tilde : (at : ℕ) (t : Text) → hits q (part_spots (p.Tilde at t)) ≡ hits q (OfWord at ∷ [])
  unfolding items_spots
  count_tilde at t = refl

  pub count_double : (w : p.Word) → hits q (part_spots (p.Double w)) ≡ hits q (word_spots w)
  unfolding items_spots
  count_double w = refl

  pub count_expansion : (at : ℕ) (x : p.Parameter) (o : p.Operator) → hits q (part_spots (p.Expansion at x o)) ≡ hits q (OfWord at ∷ []) + hits q (operator_spots o)
  unfolding items_spots
  count_expansion at x o = hits_cons q (OfWord at) (operator_spots o)

  pub count_arithmetic : (at : ℕ) (e : p.Expression) → hits q (part_spots (p.Arithmetic at e)) ≡ hits q (OfWord at ∷ []) + hits q (expression_spots e)
  unfolding items_spots
  count_arithmetic at e = hits_cons q (OfWord at) (expression_spots e)

  pub count_substitution : (at : ℕ) (t : p.Items) → hits q (part_spots (p.Substitution at t)) ≡ hits q (OfWord at ∷ []) + hits q (items_spots t)
  unfolding items_spots
  count_substitution at t = hits_cons q (OfWord at) (items_spots t)

  pub count_value : hits q (operator_spots p.Value) ≡ 0
  unfolding items_spots
  count_value = hits_none q

  pub count_length : hits q (operator_spots p.Length) ≡ 0
  unfolding items_spots
  count_length = hits_none q

  pub count_use : (a : Action) (colon : Bool) (w : p.Word) → hits q (operator_spots (p.Use a colon w)) ≡ hits q (word_spots w)
  unfolding items_spots
  count_use a colon w = refl

  pub count_remove : (r : Removal) (w : p.Word) → hits q (operator_spots (p.Remove r w)) ≡ hits q (word_spots w)
  unfolding items_spots
  count_remove r w = refl

  pub count_constant : (t : Text) → hits q (expression_spots (p.Constant t)) ≡ 0
  unfolding items_spots
  count_constant t = hits_none q

  pub count_name : (at : ℕ) (t : Text) → hits q (expression_spots (p.Name at t)) ≡ hits q (OfWord at ∷ [])
  unfolding items_spots
  count_name at t = refl

  pub count_expanded : (x : p.Part) → hits q (expression_spots (p.Expanded x)) ≡ hits q (part_spots x)
  unfolding items_spots
  count_expanded x = refl

  pub count_parenthesis : (e : p.Expression) → hits q (expression_spots (p.Parenthesis e)) ≡ hits q (expression_spots e)
  unfolding items_spots
  count_parenthesis e = refl

  pub count_signed : (o : Unary) (e : p.Expression) → hits q (expression_spots (p.Signed o e)) ≡ hits q (expression_spots e)
  unfolding items_spots
  count_signed o e = refl

  pub count_chain : (e : p.Expression) (es : p.Operands) → hits q (expression_spots (p.Chain e es)) ≡ hits q (expression_spots e) + hits q (operands_spots es)
  unfolding items_spots
  count_chain e es = hits_join q (expression_spots e) (operands_spots es)

  pub count_choice : (e y n : p.Expression) → hits q (expression_spots (p.Choice e y n)) ≡ hits q (expression_spots e) + hits q (expression_spots y) + hits q (expression_spots n)
  unfolding items_spots
  count_choice e y n = three (expression_spots e) (expression_spots y) (expression_spots n)

  pub count_assigned : (at : ℕ) (t : Text) (o : Option Binary) (e : p.Expression) → hits q (expression_spots (p.Assigned at t o e)) ≡ hits q (OfWord at ∷ []) + hits q (expression_spots e)
  unfolding items_spots
  count_assigned at t o e = hits_cons q (OfWord at) (expression_spots e)

  pub count_no_operands : hits q (operands_spots p.no_operands) ≡ 0
  unfolding items_spots
  count_no_operands = hits_none q

  pub count_operands : (o : Binary) (e : p.Expression) (es : p.Operands) → hits q (operands_spots (p.more_operands o e es)) ≡ hits q (expression_spots e) + hits q (operands_spots es)
  unfolding items_spots
  count_operands o e es = hits_join q (expression_spots e) (operands_spots es)

  pub count_no_words : hits q (words_spots p.no_words) ≡ 0
  unfolding items_spots
  count_no_words = hits_none q

  pub count_words : (w : p.Word) (ws : p.Words) → hits q (words_spots (p.more_words w ws)) ≡ hits q (word_spots w) + hits q (words_spots ws)
  unfolding items_spots
  count_words w ws = hits_join q (word_spots w) (words_spots ws)

  pub count_every : hits q (for_words_spots p.every_parameter) ≡ 0
  unfolding items_spots
  count_every = hits_none q

  pub count_listed : (ws : p.Words) → hits q (for_words_spots (p.listed ws)) ≡ hits q (words_spots ws)
  unfolding items_spots
  count_listed ws = refl

  pub count_file : (w : p.Word) → hits q (redirect_spots (p.File w)) ≡ hits q (word_spots w)
  unfolding items_spots
  count_file w = refl

  pub count_here : (w : p.Word) → hits q (redirect_spots (p.Here w)) ≡ hits q (word_spots w)
  unfolding items_spots
  count_here w = refl

  pub count_no_redirects : hits q (redirects_spots p.no_redirects) ≡ 0
  unfolding items_spots
  count_no_redirects = hits_none q

  pub count_redirects : (r : p.Redirect) (rs : p.Redirects) → hits q (redirects_spots (p.more_redirects r rs)) ≡ hits q (redirect_spots r) + hits q (redirects_spots rs)
  unfolding items_spots
  count_redirects r rs = hits_join q (redirect_spots r) (redirects_spots rs)

  pub count_no_elements : hits q (elements_spots p.no_elements) ≡ 0
  unfolding items_spots
  count_no_elements = hits_none q

  pub count_assignment : (t : Text) (w : p.Word) (es : p.Elements) → hits q (elements_spots (p.assignment t w es)) ≡ hits q (word_spots w) + hits q (elements_spots es)
  unfolding items_spots
  count_assignment t w es = hits_join q (word_spots w) (elements_spots es)

  pub count_operand : (w : p.Word) (es : p.Elements) → hits q (elements_spots (p.operand w es)) ≡ hits q (word_spots w) + hits q (elements_spots es)
  unfolding items_spots
  count_operand w es = hits_join q (word_spots w) (elements_spots es)

  pub count_redirection : (r : p.Redirect) (es : p.Elements) → hits q (elements_spots (p.redirection r es)) ≡ hits q (redirect_spots r) + hits q (elements_spots es)
  unfolding items_spots
  count_redirection r es = hits_join q (redirect_spots r) (elements_spots es)

  pub count_simple : (es : p.Elements) → hits q (kind_spots (p.Simple es)) ≡ hits q (elements_spots es)
  unfolding items_spots
  count_simple es = refl

  pub count_group : (t : p.Items) → hits q (kind_spots (p.Group t)) ≡ hits q (items_spots t)
  unfolding items_spots
  count_group t = refl

  pub count_subshell : (t : p.Items) → hits q (kind_spots (p.Subshell t)) ≡ hits q (items_spots t)
  unfolding items_spots
  count_subshell t = refl

  pub count_conditional : (bs : p.Branches) (o : p.Otherwise) → hits q (kind_spots (p.Conditional bs o)) ≡ hits q (branches_spots bs) + hits q (otherwise_spots o)
  unfolding items_spots
  count_conditional bs o = hits_join q (branches_spots bs) (otherwise_spots o)

  pub count_loop : (k : LoopKind) (c t : p.Items) → hits q (kind_spots (p.Loop k c t)) ≡ hits q (items_spots c) + hits q (items_spots t)
  unfolding items_spots
  count_loop k c t = hits_join q (items_spots c) (items_spots t)

  pub count_for : (n : Text) (ws : p.ForWords) (t : p.Items) → hits q (kind_spots (p.For n ws t)) ≡ hits q (for_words_spots ws) + hits q (items_spots t)
  unfolding items_spots
  count_for n ws t = hits_join q (for_words_spots ws) (items_spots t)

  pub count_case : (w : p.Word) (cs : p.Clauses) → hits q (kind_spots (p.Case w cs)) ≡ hits q (word_spots w) + hits q (clauses_spots cs)
  unfolding items_spots
  count_case w cs = hits_join q (word_spots w) (clauses_spots cs)

  pub count_define : (n : Text) (c : p.Command) → hits q (kind_spots (p.Define n c)) ≡ hits q (command_spots c)
  unfolding items_spots
  count_define n c = refl

  pub count_no_branches : hits q (branches_spots p.no_branches) ≡ 0
  unfolding items_spots
  count_no_branches = hits_none q

  pub count_branches : (c t : p.Items) (bs : p.Branches) → hits q (branches_spots (p.more_branches c t bs)) ≡ hits q (items_spots c) + hits q (items_spots t) + hits q (branches_spots bs)
  unfolding items_spots
  count_branches c t bs = three (items_spots c) (items_spots t) (branches_spots bs)

  pub count_no_else : hits q (otherwise_spots p.no_else) ≡ 0
  unfolding items_spots
  count_no_else = hits_none q

  pub count_else : (t : p.Items) → hits q (otherwise_spots (p.else_of t)) ≡ hits q (items_spots t)
  unfolding items_spots
  count_else t = refl

  pub count_no_clauses : hits q (clauses_spots p.no_clauses) ≡ 0
  unfolding items_spots
  count_no_clauses = hits_none q

  pub count_clauses : (ws : p.Words) (t : p.Items) (e : ClauseEnd) (cs : p.Clauses) → hits q (clauses_spots (p.more_clauses ws t e cs)) ≡ hits q (words_spots ws) + hits q (items_spots t) + hits q (clauses_spots cs)
  unfolding items_spots
  count_clauses ws t e cs = three (words_spots ws) (items_spots t) (clauses_spots cs)

  pub count_no_commands : hits q (commands_spots p.no_commands) ≡ 0
  unfolding items_spots
  count_no_commands = hits_none q

  pub count_commands : (c : p.Command) (cs : p.Commands) → hits q (commands_spots (p.more_commands c cs)) ≡ hits q (command_spots c) + hits q (commands_spots cs)
  unfolding items_spots
  count_commands c cs = hits_join q (command_spots c) (commands_spots cs)

  pub count_command : (n at : ℕ) (k : p.Kind) (rs : p.Redirects) → hits q (command_spots (p.command n at k rs)) ≡ hits q (OfCommand at ∷ []) + (hits q (kind_spots k) + hits q (redirects_spots rs))
  unfolding items_spots
  count_command n at k rs = own (OfCommand at) (kind_spots k) (redirects_spots rs)

  pub count_pipeline : (negated : Bool) (cs : p.Commands) → hits q (pipeline_spots (p.pipeline negated cs)) ≡ hits q (commands_spots cs)
  unfolding items_spots
  count_pipeline negated cs = refl

  pub count_no_links : hits q (links_spots p.no_links) ≡ 0
  unfolding items_spots
  count_no_links = hits_none q

  pub count_links : (l : Link) (x : p.Pipeline) (ls : p.Links) → hits q (links_spots (p.more_links l x ls)) ≡ hits q (pipeline_spots x) + hits q (links_spots ls)
  unfolding items_spots
  count_links l x ls = hits_join q (pipeline_spots x) (links_spots ls)

  pub count_list : (x : p.Pipeline) (ls : p.Links) → hits q (list_spots (p.and_or x ls)) ≡ hits q (pipeline_spots x) + hits q (links_spots ls)
  unfolding items_spots
  count_list x ls = hits_join q (pipeline_spots x) (links_spots ls)

  pub count_no_items : hits q (items_spots p.no_items) ≡ 0
  unfolding items_spots
  count_no_items = hits_none q

  pub count_items : (l : p.AndOr) (background : Bool) (is : p.Items) → hits q (items_spots (p.more_items l background is)) ≡ hits q (list_spots l) + hits q (items_spots is)
  unfolding items_spots
  count_items l background is = hits_join q (list_spots l) (items_spots is)
