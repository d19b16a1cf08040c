-- The places of the names that a command may drop, by the pieces that name them.
use Rattle.std.proofs.Common.{◌≡◌, ℕ, Bool, true, false, not, ◌&&◌, cond, if◌then◌else◌, List, [], ◌∷◌, ◌++◌, filter, fold, map, Option, Some, None, refl, sym, ap, ◌∙◌}
use Rattle.std.specs.List.{cons_option}
use Rattle.std.proofs.lemmas.List.Sums.{fold-append}
use Rattle.sh_tree.specs.declared.place.Place.{Place}
use Rattle.sh_tree.specs.declared.tree.Branch.{Branch}
use Rattle.sh_tree.specs.declared.tree.Clause.{Clause}
use Rattle.sh_tree.specs.declared.tree.Command.{Command}
use Rattle.sh_tree.specs.declared.tree.Element.{Element, Assignment', Word', Redirection'}
use Rattle.sh_tree.specs.declared.tree.Element.TheVariants as element
use Rattle.sh_tree.specs.declared.tree.Kind.TheVariants as kind
use Rattle.sh_tree.specs.declared.tree.LoopKind.{LoopKind}
use Rattle.sh_tree.specs.declared.tree.Redirect.{Redirect}
use Rattle.sh_tree.specs.declared.tree.Script.{Script}
use Rattle.sh_tree.specs.declared.tree.Span.{Span}
use Rattle.sh_tree.specs.declared.tree.Word.{Word}
use Rattle.sh_tree.specs.standard.Tree.{text_of}
use Rattle.sh_tree.specs.standard.language.Bytes.{is_name}
use Rattle.sh_tree.specs.Lists.{element_from, elements_from}
use Rattle.sh_tree.specs.standard.program.Syntax as p
use Rattle.sh_tree.specs.standard.program.Syntax.{Text}
use Rattle.sh_tree.specs.standard.program.Words.{assignments_in}
use Rattle.sh_tree.proofs.ProgramRules as rules
use Rattle.sh_runs.specs.Profile.{Static}
use Rattle.sh_table.specs.WordTexts.{text_in}
use Rattle.sh_table.specs.declared.word_text.WordText.{WordText}
use Rattle.sh_runs.specs.standard.runs.Environment.{is_one_of}
use Rattle.sh_runs.specs.standard.runs.Operands.{Removal, OfVariables, OfFunctions, OfEither, OfAny}
use Rattle.sh_operands.specs.declared.options.Letters.{Letters}
use Rattle.sh_operands.specs.Texts.{no_letters, removal_in, takes_variables, takes_functions, unset_behind}
use Rattle.sh_operands.proofs.MeaningLemmas.{unset_reads}
use Rattle.sh_domain.specs.Facts.{Facts, claims, Variable}
use Rattle.sh_domain.specs.Operands.{removed}
use Rattle.sh_domain.specs.Table.{prefixes}
use Rattle.sh_demands.specs.Drops.{once_told, all_told, unset_drops, unseen}
use Rattle.sh_gains.specs.Statics.{listed}
use Rattle.sh_demands.specs.DropWalks.{told_if, variable_told, function_told, variable_step, function_step, removed_told, unseen_told, prefix_step, elements_step, reached_step}
use Rattle.sh_demands.specs.Places.{Source, reached_sharing}

-- names one after the other
pub told_both : (k at : ℕ) (ps : List Place) (xs ys : List Text) → all_told k at ps (xs ++ ys) ≡ all_told k at (all_told k at ps xs) ys
told_both k at ps xs ys = fold-append (once_told k at) ps xs ys

-- one name, if it is wanted
one_told : (k at : ℕ) (ps : List Place) (b : Bool) (t : Text) (ts : List Text) → all_told k at ps (cond b (t ∷ ts) ts) ≡ all_told k at (told_if b k at ps t) ts
unfolding told_if
one_told k at ps true t ts = refl
one_told k at ps false t ts = refl

-- `unset`

variables_told : (b : List ℕ) (k at : ℕ) (ps : List Place) (ws : List WordText) → all_told k at ps (filter is_name (listed (map (text_in b) ws))) ≡ fold (variable_step b k at) ps ws
unfolding variable_told
variables_told b k at ps [] = refl
variables_told b k at ps (w ∷ ws) = go (text_in b w) ∙ variables_told b k at (variable_step b k at ps w) ws
  where
    rest : List Text
    rest = filter is_name (listed (map (text_in b) ws))

    go : (x : Static) → all_told k at ps (filter is_name (cons_option x (listed (map (text_in b) ws)))) ≡ all_told k at (variable_told k at ps x) rest
    go None = refl
    go (Some t) = one_told k at ps (is_name t) t rest

functions_told : (b : List ℕ) (names : List Text) (k at : ℕ) (ps : List Place) (ws : List WordText)
    → all_told k at ps (filter (is_one_of names) (filter is_name (listed (map (text_in b) ws)))) ≡ fold (function_step b names k at) ps ws
unfolding function_told
functions_told b names k at ps [] = refl
functions_told b names k at ps (w ∷ ws) = go (text_in b w) ∙ functions_told b names k at (function_step b names k at ps w) ws
  where
    behind : List Text
    behind = filter is_name (listed (map (text_in b) ws))

    by : (x : Bool) (t : Text) → all_told k at ps (filter (is_one_of names) (cond x (t ∷ behind) behind)) ≡ all_told k at (told_if (x && is_one_of names t) k at ps t) (filter (is_one_of names) behind)
    by true t = one_told k at ps (is_one_of names t) t (filter (is_one_of names) behind)
    by false t = one_told k at ps false t (filter (is_one_of names) behind)

    go : (x : Static) → all_told k at ps (filter (is_one_of names) (filter is_name (cons_option x (listed (map (text_in b) ws)))))
        ≡ all_told k at (function_told names k at ps x) (filter (is_one_of names) behind)
    go None = refl
    go (Some t) = by (is_name t) t

removal_told : (b : List ℕ) (names : List Text) (r : Removal) (k at : ℕ) (ps : List Place) (ws : List WordText)
    → all_told k at ps ((removed r (filter is_name (listed (map (text_in b) ws)))).vars ++ filter (is_one_of names) (removed r (filter is_name (listed (map (text_in b) ws)))).functions)
    ≡ removed_told b names (takes_variables r) (takes_functions r) k at ps ws
unfolding removed takes_variables takes_functions removed_told
removal_told b names OfVariables k at ps ws =
    told_both k at ps (filter is_name (listed (map (text_in b) ws))) [] ∙ variables_told b k at ps ws
removal_told b names OfFunctions k at ps ws = functions_told b names k at ps ws
removal_told b names OfEither k at ps ws =
    told_both k at ps (filter is_name (listed (map (text_in b) ws))) (filter (is_one_of names) (filter is_name (listed (map (text_in b) ws))))
    ∙ functions_told b names k at (all_told k at ps (filter is_name (listed (map (text_in b) ws)))) ws
    ∙ ap (λ qs. fold (function_step b names k at) qs ws) (variables_told b k at ps ws)
removal_told b names OfAny k at ps ws =
    told_both k at ps (filter is_name (listed (map (text_in b) ws))) (filter (is_one_of names) (filter is_name (listed (map (text_in b) ws))))
    ∙ functions_told b names k at (all_told k at ps (filter is_name (listed (map (text_in b) ws)))) ws
    ∙ ap (λ qs. fold (function_step b names k at) qs ws) (variables_told b k at ps ws)

pub unset_told : (b : List ℕ) (names : List Text) (l : Letters) (k at : ℕ) (ps : List Place) (operands ws : List WordText)
    → unset_behind no_letters (map (text_in b) operands) ≡ (l, map (text_in b) ws)
    → removed_told b names (takes_variables (removal_in l)) (takes_functions (removal_in l)) k at ps ws
    ≡ all_told k at ps (unset_drops names (listed (map (text_in b) operands)))
unset_told b names l k at ps operands ws h =
    sym (removal_told b names (removal_in l) k at ps ws)
    ∙ ap (λ (x : Removal × List Text). all_told k at ps ((removed x.0 (filter is_name x.1)).vars ++ filter (is_one_of names) (removed x.0 (filter is_name x.1)).functions))
    (sym (unset_reads (map (text_in b) operands) ∙ ap (λ (x : Letters × List Static). (removal_in x.0, listed x.1)) h))

-- Prefix assignments

one_unseen : (f : Facts) (k at : ℕ) (ps : List Place) (t : Text) (ts : List Text)
    → all_told k at ps (filter (λ x. not (claims f (Variable x))) (t ∷ ts)) ≡ all_told k at (unseen_told f k at ps t) (filter (λ x. not (claims f (Variable x))) ts)
unfolding unseen_told
one_unseen f k at ps t ts = go (claims f (Variable t))
  where
    rest : List Text
    rest = filter (λ x. not (claims f (Variable x))) ts

    go : (b : Bool) → all_told k at ps (cond (not b) (t ∷ rest) rest) ≡ all_told k at (if b then ps else once_told k at ps t) rest
    go true = refl
    go false = refl

pub prefix_step-Assignment : (b : List ℕ) (f : Facts) (k at : ℕ) (ps : List Place) (s : Span) (w : Word) → prefix_step b f k at ps (element.Assignment s w) ≡ unseen_told f k at ps (text_of b s)
unfolding prefix_step unseen assignments_in
prefix_step-Assignment b f k at ps s w =
    ap (λ es. all_told k at ps (unseen f es)) (rules.element_from-Assignment b s w p.no_elements) ∙ one_unseen f k at ps (text_of b s) []

pub prefix_step-Word : (b : List ℕ) (f : Facts) (k at : ℕ) (ps : List Place) (w : Word) → prefix_step b f k at ps (element.Word w) ≡ ps
unfolding prefix_step unseen assignments_in
prefix_step-Word b f k at ps w = ap (λ es. all_told k at ps (unseen f es)) (rules.element_from-Word b w p.no_elements)

pub prefix_step-Redirection : (b : List ℕ) (f : Facts) (k at : ℕ) (ps : List Place) (r : Redirect) → prefix_step b f k at ps (element.Redirection r) ≡ ps
unfolding prefix_step unseen assignments_in
prefix_step-Redirection b f k at ps r = ap (λ es. all_told k at ps (unseen f es)) (rules.element_from-Redirection b r p.no_elements)

pub ruleset prefixed = (prefix_step-Assignment, prefix_step-Word, prefix_step-Redirection)

prefix_behind : (b : List ℕ) (f : Facts) (k at : ℕ) (ps : List Place) (e : Element) (rest : p.Elements)
    → all_told k at ps (unseen f (element_from b e rest)) ≡ all_told k at (prefix_step b f k at ps e) (unseen f rest)
unfolding prefix_step unseen assignments_in element_from
prefix_behind b f k at ps (Assignment' name s shape row) rest =
    one_unseen f k at ps (text_of b name) (prefixes rest) ∙ ap (λ qs. all_told k at qs (unseen f rest)) (sym (one_unseen f k at ps (text_of b name) []))
prefix_behind b f k at ps (Word' s shape row) rest = refl
prefix_behind b f k at ps (Redirection' offset number target) rest = refl

pub prefixes_told : (b : List ℕ) (f : Facts) (k at : ℕ) (ps : List Place) (es : List Element)
    → all_told k at ps (unseen f (elements_from b es)) ≡ fold (prefix_step b f k at) ps es
unfolding elements_from unseen assignments_in
prefixes_told b f k at ps [] = refl
prefixes_told b f k at ps (e ∷ es) = prefix_behind b f k at ps e (elements_from b es) ∙ prefixes_told b f k at (prefix_step b f k at ps e) es

-- Commands of a tree

pub reached_step-Simple : (b : List ℕ) (s : Source) (n at : ℕ) (ps : List Place) (es : List Element) → reached_step b s n at ps (kind.Simple es) ≡ elements_step b s n at ps es
unfolding reached_step elements_step reached_sharing
reached_step-Simple b s n at ps es = ap (reached_sharing s n at ps) (rules.kind_of-Simple b es)

pub reached_step-Group : (b : List ℕ) (s : Source) (n at : ℕ) (ps : List Place) (t : Script) → reached_step b s n at ps (kind.Group t) ≡ ps
unfolding reached_step reached_sharing
reached_step-Group b s n at ps t = ap (reached_sharing s n at ps) (rules.kind_of-Group b t)

pub reached_step-Subshell : (b : List ℕ) (s : Source) (n at : ℕ) (ps : List Place) (t : Script) → reached_step b s n at ps (kind.Subshell t) ≡ ps
unfolding reached_step reached_sharing
reached_step-Subshell b s n at ps t = ap (reached_sharing s n at ps) (rules.kind_of-Subshell b t)

pub reached_step-Cond : (b : List ℕ) (s : Source) (n at : ℕ) (ps : List Place) (bs : List Branch) (o : Option Script) → reached_step b s n at ps (kind.Cond bs o) ≡ ps
unfolding reached_step reached_sharing
reached_step-Cond b s n at ps bs o = ap (reached_sharing s n at ps) (rules.kind_of-Cond b bs o)

pub reached_step-Loop : (b : List ℕ) (s : Source) (n at : ℕ) (ps : List Place) (k : LoopKind) (c t : Script) → reached_step b s n at ps (kind.Loop k c t) ≡ ps
unfolding reached_step reached_sharing
reached_step-Loop b s n at ps k c t = ap (reached_sharing s n at ps) (rules.kind_of-Loop b k c t)

pub reached_step-For : (b : List ℕ) (s : Source) (n at : ℕ) (ps : List Place) (offset : Span) (o : Option (List Word)) (t : Script) → reached_step b s n at ps (kind.For offset o t) ≡ ps
unfolding reached_step reached_sharing
reached_step-For b s n at ps offset o t = ap (reached_sharing s n at ps) (rules.kind_of-For b offset o t)

pub reached_step-Branches : (b : List ℕ) (s : Source) (n at : ℕ) (ps : List Place) (w : Word) (cs : List Clause) → reached_step b s n at ps (kind.Branches w cs) ≡ ps
unfolding reached_step reached_sharing
reached_step-Branches b s n at ps w cs = ap (reached_sharing s n at ps) (rules.kind_of-Branches b w cs)

pub reached_step-Define : (b : List ℕ) (s : Source) (n at : ℕ) (ps : List Place) (offset : Span) (c : Command) → reached_step b s n at ps (kind.Define offset c) ≡ ps
unfolding reached_step reached_sharing
reached_step-Define b s n at ps offset c = ap (reached_sharing s n at ps) (rules.kind_of-Define b offset c)

pub ruleset reached_kinds = (reached_step-Simple, reached_step-Group, reached_step-Subshell, reached_step-Cond, reached_step-Loop, reached_step-For, reached_step-Branches, reached_step-Define)
