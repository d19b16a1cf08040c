-- What makes a piece of a program formed, with each command in it: a lemma a production.
use Rattle.std.proofs.Common.{◌≡◌, ℕ, Bool, true, Option, List, [], ◌++◌, refl, ◌∙◌}
use Rattle.std.specs.List.{list_all}
use Rattle.std.proofs.lemmas.Bool.{and_from}
use Rattle.std.proofs.lemmas.List.Folds.{list_all-append}
use Rattle.sh_tree.specs.declared.tree.Action.{Action}
use Rattle.sh_tree.specs.declared.tree.Binary.{Binary}
use Rattle.sh_tree.specs.declared.tree.ClauseEnd.{ClauseEnd}
use Rattle.sh_tree.specs.declared.tree.Link.{Link}
use Rattle.sh_tree.specs.declared.tree.LoopKind.{LoopKind}
use Rattle.sh_tree.specs.declared.tree.Removal.{Removal}
use Rattle.sh_tree.specs.declared.tree.SingleStyle.{SingleStyle}
use Rattle.sh_tree.specs.declared.tree.Unary.{Unary}
use Rattle.sh_tree.specs.standard.language.Bytes.{is_name}
use Rattle.sh_tree.specs.standard.program.Syntax as p
use Rattle.sh_tree.specs.standard.program.Syntax.{Text}
use Rattle.sh_runs.specs.Surroundings.{Surroundings, Located, outside, in_loop, in_function, in_part, in_item, items_located, list_located, links_located, pipeline_located, commands_located, command_located, kind_located, elements_located, redirect_located, redirects_located, branches_located, otherwise_located, for_words_located, words_located, clauses_located, word_located, part_located, operator_located, expression_located, operands_located}
use Rattle.sh_domain.specs.Table.{is_redirected}
use Rattle.sh_domain.specs.Inclusions.{parameter_formed, part_formed, word_formed, operator_formed, expression_formed, operands_formed, field_formed, fields_formed, words_formed, redirect_formed, redirects_formed, elements_formed, for_words_formed, clauses_formed, kind_formed, command_formed}

-- each of the commands is formed
abbrev pub AllFormed : List Located → Type 0
AllFormed ls = list_all (λ (l : Located). command_formed l.command) ls ≡ true

none : AllFormed []
none = refl

join : (xs ys : List Located) → AllFormed xs → AllFormed ys → AllFormed (xs ++ ys)
join xs ys h k = list_all-append (λ (l : Located). command_formed l.command) xs ys ∙ and_from _ _ h k

-- Pieces of words

abbrev pub GoodPart : p.Part → Type 0
GoodPart x = (part_formed x ≡ true) × AllFormed (part_located x)

abbrev pub GoodWord : p.Word → Type 0
GoodWord w = (word_formed w ≡ true) × AllFormed (word_located w)

abbrev pub GoodOperator : p.Operator → Type 0
GoodOperator o = (operator_formed o ≡ true) × AllFormed (operator_located o)

abbrev pub GoodExpression : p.Expression → Type 0
GoodExpression e = (expression_formed e ≡ true) × AllFormed (expression_located e)

abbrev pub GoodOperands : p.Operands → Type 0
GoodOperands es = (operands_formed es ≡ true) × AllFormed (operands_located es)

-- Pieces of lists, whatever is round them

abbrev pub GoodItems : p.Items → Type 0
GoodItems t = (x : Surroundings) → AllFormed (items_located x t)

abbrev pub GoodList : p.AndOr → Type 0
GoodList l = (x : Surroundings) → AllFormed (list_located x l)

abbrev pub GoodLinks : p.Links → Type 0
GoodLinks ls = (x : Surroundings) → AllFormed (links_located x ls)

abbrev pub GoodPipeline : p.Pipeline → Type 0
GoodPipeline q = (x : Surroundings) → AllFormed (pipeline_located x q)

abbrev pub GoodCommands : p.Commands → Type 0
GoodCommands cs = (x : Surroundings) → AllFormed (commands_located x cs)

abbrev pub GoodCommand : p.Command → Type 0
GoodCommand c = (x : Surroundings) → AllFormed (command_located x c)

abbrev pub GoodKind : p.Kind → Type 0
GoodKind k = ((rs : p.Redirects) → kind_formed k rs ≡ true) × ((x : Surroundings) → AllFormed (kind_located x k))

abbrev pub GoodElements : p.Elements → Type 0
GoodElements es = (elements_formed es ≡ true) × AllFormed (elements_located es)

abbrev pub GoodRedirect : p.Redirect → Type 0
GoodRedirect r = (redirect_formed r ≡ true) × AllFormed (redirect_located r)

abbrev pub GoodRedirects : p.Redirects → Type 0
GoodRedirects rs = (redirects_formed rs ≡ true) × AllFormed (redirects_located rs)

abbrev pub GoodBranches : p.Branches → Type 0
GoodBranches bs = (x : Surroundings) → AllFormed (branches_located x bs)

abbrev pub GoodOtherwise : p.Otherwise → Type 0
GoodOtherwise o = (x : Surroundings) → AllFormed (otherwise_located x o)

abbrev pub GoodForWords : p.ForWords → Type 0
GoodForWords o = (for_words_formed o ≡ true) × AllFormed (for_words_located o)

abbrev pub GoodFields : p.Words → Type 0
GoodFields ws = (fields_formed ws ≡ true) × AllFormed (words_located ws)

abbrev pub GoodWords : p.Words → Type 0
GoodWords ws = (words_formed ws ≡ true) × AllFormed (words_located ws)

abbrev pub GoodClauses : p.Clauses → Type 0
GoodClauses cs = (clauses_formed cs ≡ true) × ((x : Surroundings) → AllFormed (clauses_located x cs))

-- Parts

pub good_plain : (t : Text) → part_formed (p.Plain t) ≡ true → GoodPart (p.Plain t)
unfolding items_located
good_plain t h = (h, none)

pub good_escaped : (t : Text) → GoodPart (p.Escaped t)
unfolding items_located part_formed
good_escaped t = (refl, none)

pub good_single : (style : SingleStyle) (t : Text) → GoodPart (p.Single style t)
unfolding items_located part_formed
good_single style t = (refl, none)

pub good_joined : GoodPart p.Joined
unfolding items_located part_formed
good_joined = (refl, none)

pub good_tilde : (at : ℕ) (t : Text) → GoodPart (p.Tilde at t)
unfolding items_located part_formed
good_tilde at t = (refl, none)

pub good_double : (w : p.Word) → GoodWord w → GoodPart (p.Double w)
unfolding items_located part_formed
good_double w h = h

pub good_expansion : (at : ℕ) (q : p.Parameter) (o : p.Operator) → parameter_formed q ≡ true → GoodOperator o → GoodPart (p.Expansion at q o)
unfolding items_located part_formed
good_expansion at q o h k = (and_from _ _ h k.0, k.1)

pub good_arithmetic : (at : ℕ) (e : p.Expression) → GoodExpression e → GoodPart (p.Arithmetic at e)
unfolding items_located part_formed
good_arithmetic at e h = h

pub good_substitution : (at : ℕ) (t : p.Items) → GoodItems t → GoodPart (p.Substitution at t)
unfolding items_located part_formed
good_substitution at t h = (refl, h outside)

pub good_empty : GoodWord p.no_parts
unfolding items_located part_formed
good_empty = (refl, none)

pub good_parts : (x : p.Part) (w : p.Word) → GoodPart x → GoodWord w → GoodWord (p.more_parts x w)
unfolding items_located part_formed
good_parts x w h k = (and_from _ _ h.0 k.0, join (part_located x) (word_located w) h.1 k.1)

pub good_value : GoodOperator p.Value
unfolding items_located part_formed
good_value = (refl, none)

pub good_length : GoodOperator p.Length
unfolding items_located part_formed
good_length = (refl, none)

pub good_use : (a : Action) (colon : Bool) (w : p.Word) → GoodWord w → GoodOperator (p.Use a colon w)
unfolding items_located part_formed
good_use a colon w h = h

pub good_remove : (r : Removal) (w : p.Word) → GoodWord w → GoodOperator (p.Remove r w)
unfolding items_located part_formed
good_remove r w h = h

-- Arithmetic

pub good_constant : (t : Text) → GoodExpression (p.Constant t)
unfolding items_located part_formed
good_constant t = (refl, none)

pub good_name : (at : ℕ) (t : Text) → is_name t ≡ true → GoodExpression (p.Name at t)
unfolding items_located part_formed
good_name at t h = (h, none)

pub good_expanded : (x : p.Part) → GoodPart x → GoodExpression (p.Expanded x)
unfolding items_located part_formed
good_expanded x h = h

pub good_parenthesis : (e : p.Expression) → GoodExpression e → GoodExpression (p.Parenthesis e)
unfolding items_located part_formed
good_parenthesis e h = h

pub good_signed : (o : Unary) (e : p.Expression) → GoodExpression e → GoodExpression (p.Signed o e)
unfolding items_located part_formed
good_signed o e h = h

pub good_chain : (e : p.Expression) (es : p.Operands) → GoodExpression e → GoodOperands es → GoodExpression (p.Chain e es)
unfolding items_located part_formed
good_chain e es h k = (and_from _ _ h.0 k.0, join (expression_located e) (operands_located es) h.1 k.1)

pub good_choice : (e y n : p.Expression) → GoodExpression e → GoodExpression y → GoodExpression n → GoodExpression (p.Choice e y n)
unfolding items_located part_formed
good_choice e y n h i j = (
  and_from _ _ (and_from _ _ h.0 i.0) j.0,
  join (expression_located e ++ expression_located y) (expression_located n) (join (expression_located e) (expression_located y) h.1 i.1) j.1,
)

pub good_assigned : (at : ℕ) (t : Text) (o : Option Binary) (e : p.Expression) → is_name t ≡ true → GoodExpression e → GoodExpression (p.Assigned at t o e)
unfolding items_located part_formed
good_assigned at t o e h k = (and_from _ _ h k.0, k.1)

pub good_no_operands : GoodOperands p.no_operands
unfolding items_located part_formed
good_no_operands = (refl, none)

pub good_operands : (o : Binary) (e : p.Expression) (es : p.Operands) → GoodExpression e → GoodOperands es → GoodOperands (p.more_operands o e es)
unfolding items_located part_formed
good_operands o e es h k = (and_from _ _ h.0 k.0, join (expression_located e) (operands_located es) h.1 k.1)

-- Words

pub good_no_words : GoodWords p.no_words
unfolding items_located words_formed
good_no_words = (refl, none)

pub good_words : (w : p.Word) (ws : p.Words) → GoodWord w → GoodWords ws → GoodWords (p.more_words w ws)
unfolding items_located words_formed
good_words w ws h k = (and_from _ _ h.0 k.0, join (word_located w) (words_located ws) h.1 k.1)

pub good_no_fields : GoodFields p.no_words
unfolding items_located fields_formed
good_no_fields = (refl, none)

pub good_fields : (w : p.Word) (ws : p.Words) → GoodWord w → field_formed w ≡ true → GoodFields ws → GoodFields (p.more_words w ws)
unfolding items_located fields_formed
good_fields w ws h f k = (and_from _ _ f k.0, join (word_located w) (words_located ws) h.1 k.1)

pub good_every : GoodForWords p.every_parameter
unfolding items_located for_words_formed
good_every = (refl, none)

pub good_listed : (ws : p.Words) → GoodFields ws → GoodForWords (p.listed ws)
unfolding items_located for_words_formed
good_listed ws h = h

-- Redirections and elements

pub good_file : (w : p.Word) → GoodWord w → GoodRedirect (p.File w)
unfolding items_located redirect_formed
good_file w h = h

pub good_here : (w : p.Word) → GoodWord w → GoodRedirect (p.Here w)
unfolding items_located redirect_formed
good_here w h = h

pub good_no_redirects : GoodRedirects p.no_redirects
unfolding items_located redirects_formed
good_no_redirects = (refl, none)

pub good_redirects : (r : p.Redirect) (rs : p.Redirects) → GoodRedirect r → GoodRedirects rs → GoodRedirects (p.more_redirects r rs)
unfolding items_located redirects_formed
good_redirects r rs h k = (and_from _ _ h.0 k.0, join (redirect_located r) (redirects_located rs) h.1 k.1)

pub good_no_elements : GoodElements p.no_elements
unfolding items_located elements_formed
good_no_elements = (refl, none)

pub good_assignment : (name : Text) (w : p.Word) (es : p.Elements) → is_name name ≡ true → GoodWord w → GoodElements es → GoodElements (p.assignment name w es)
unfolding items_located elements_formed
good_assignment name w es n h k = (and_from _ _ (and_from _ _ n h.0) k.0, join (word_located w) (elements_located es) h.1 k.1)

pub good_operand : (w : p.Word) (es : p.Elements) → GoodWord w → field_formed w ≡ true → GoodElements es → GoodElements (p.operand w es)
unfolding items_located elements_formed
good_operand w es h f k = (and_from _ _ f k.0, join (word_located w) (elements_located es) h.1 k.1)

pub good_redirection : (r : p.Redirect) (es : p.Elements) → GoodRedirect r → GoodElements es → GoodElements (p.redirection r es)
unfolding items_located elements_formed
good_redirection r es h k = (and_from _ _ h.0 k.0, join (redirect_located r) (elements_located es) h.1 k.1)

-- Commands

pub good_simple : (number at : ℕ) (es : p.Elements) → GoodElements es → GoodCommand (p.command number at (p.Simple es) p.no_redirects)
unfolding items_located kind_formed command_formed redirects_formed is_redirected
good_simple number at es h x = and_from _ _ (and_from _ _ (and_from _ _ h.0 refl) refl) (join (elements_located es) [] h.1 none)

pub good_command : (number at : ℕ) (k : p.Kind) (rs : p.Redirects) → GoodKind k → GoodRedirects rs → GoodCommand (p.command number at k rs)
unfolding items_located command_formed
good_command number at k rs h i x = and_from _ _ (and_from _ _ (h.0 rs) i.0) (join (kind_located x k) (redirects_located rs) (h.1 x) i.1)

pub good_group : (t : p.Items) → GoodItems t → GoodKind (p.Group t)
unfolding items_located kind_formed
good_group t h = ((λ rs. refl), h)

pub good_subshell : (t : p.Items) → GoodItems t → GoodKind (p.Subshell t)
unfolding items_located kind_formed
good_subshell t h = ((λ rs. refl), (λ x. h outside))

pub good_conditional : (bs : p.Branches) (o : p.Otherwise) → GoodBranches bs → GoodOtherwise o → GoodKind (p.Conditional bs o)
unfolding items_located kind_formed
good_conditional bs o h k = ((λ rs. refl), (λ x. join (branches_located x bs) (otherwise_located x o) (h x) (k x)))

pub good_loop : (kind : LoopKind) (c t : p.Items) → GoodItems c → GoodItems t → GoodKind (p.Loop kind c t)
unfolding items_located kind_formed
good_loop kind c t h k = ((λ rs. refl), (λ x. join (items_located (in_loop x) c) (items_located (in_loop x) t) (h (in_loop x)) (k (in_loop x))))

pub good_for : (name : Text) (ws : p.ForWords) (t : p.Items) → is_name name ≡ true → GoodForWords ws → GoodItems t → GoodKind (p.For name ws t)
unfolding items_located kind_formed
good_for name ws t n h k = ((λ rs. and_from _ _ n h.0), (λ x. join (for_words_located ws) (items_located (in_loop x) t) h.1 (k (in_loop x))))

pub good_case : (w : p.Word) (cs : p.Clauses) → GoodWord w → GoodClauses cs → GoodKind (p.Case w cs)
unfolding items_located kind_formed
good_case w cs h k = ((λ rs. and_from _ _ h.0 k.0), (λ x. join (word_located w) (clauses_located x cs) h.1 (k.1 x)))

pub good_define : (name : Text) (c : p.Command) → is_name name ≡ true → GoodCommand c → GoodKind (p.Define name c)
unfolding items_located kind_formed
good_define name c n h = ((λ rs. n), (λ x. h in_function))

pub good_no_branches : GoodBranches p.no_branches
unfolding items_located
good_no_branches x = none

pub good_branches : (c t : p.Items) (bs : p.Branches) → GoodItems c → GoodItems t → GoodBranches bs → GoodBranches (p.more_branches c t bs)
unfolding items_located
good_branches c t bs h i j x = join (items_located x c ++ items_located x t) (branches_located x bs) (join (items_located x c) (items_located x t) (h x) (i x)) (j x)

pub good_no_else : GoodOtherwise p.no_else
unfolding items_located
good_no_else x = none

pub good_else : (t : p.Items) → GoodItems t → GoodOtherwise (p.else_of t)
unfolding items_located
good_else t h = h

pub good_no_clauses : GoodClauses p.no_clauses
unfolding items_located clauses_formed
good_no_clauses = (refl, (λ x. none))

pub good_clauses : (ws : p.Words) (t : p.Items) (e : ClauseEnd) (cs : p.Clauses) → GoodWords ws → GoodItems t → GoodClauses cs → GoodClauses (p.more_clauses ws t e cs)
unfolding items_located clauses_formed
good_clauses ws t e cs h i j = (
  and_from _ _ h.0 j.0,
  (λ x. join (words_located ws ++ items_located x t) (clauses_located x cs) (join (words_located ws) (items_located x t) h.1 (i x)) (j.1 x)),
)

-- Lists

pub good_no_commands : GoodCommands p.no_commands
unfolding items_located
good_no_commands x = none

pub good_commands : (c : p.Command) (cs : p.Commands) → GoodCommand c → GoodCommands cs → GoodCommands (p.more_commands c cs)
unfolding items_located
good_commands c cs h k x = join (command_located x c) (commands_located x cs) (h x) (k x)

pub good_pipeline : (negated : Bool) (cs : p.Commands) → GoodCommands cs → GoodPipeline (p.pipeline negated cs)
unfolding items_located
good_pipeline negated cs h x = h (in_part x cs)

pub good_no_links : GoodLinks p.no_links
unfolding items_located
good_no_links x = none

pub good_links : (l : Link) (q : p.Pipeline) (ls : p.Links) → GoodPipeline q → GoodLinks ls → GoodLinks (p.more_links l q ls)
unfolding items_located
good_links l q ls h k x = join (pipeline_located x q) (links_located x ls) (h x) (k x)

pub good_list : (q : p.Pipeline) (ls : p.Links) → GoodPipeline q → GoodLinks ls → GoodList (p.and_or q ls)
unfolding items_located
good_list q ls h k x = join (pipeline_located x q) (links_located x ls) (h x) (k x)

pub good_no_items : GoodItems p.no_items
unfolding items_located
good_no_items x = none

pub good_items : (l : p.AndOr) (background : Bool) (is : p.Items) → GoodList l → GoodItems is → GoodItems (p.more_items l background is)
unfolding items_located
good_items l background is h k x = join (list_located (in_item x background) l) (items_located x is) (h (in_item x background)) (k x)
