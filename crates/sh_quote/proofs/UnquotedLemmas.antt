-- The places that are reported of a piece of a command, by the pieces one level below it.
use Rattle.std.proofs.Common.{◌≡◌, ◌<◌, ℕ, Bool, true, false, not, ◌&&◌, if◌then◌else◌, cond, List, [], ◌∷◌, ◌++◌, length, get_or, append-nil, append_assoc, flat_map, filter, is_some, Option, Some, None, refl, sym, ap, ap₂, subst, ◌∙◌, Result, Ok, Err, OnOk, OnErr, arith}
use Rattle.std.proofs.lemmas.List.{length-append}
use Rattle.std.proofs.lemmas.List.Folds.{length-flat_map-take}
use Rattle.sh_tree.specs.declared.place.Place.{Place}
use Rattle.sh_tree.specs.declared.tree.Branch.{Branch}
use Rattle.sh_tree.specs.declared.tree.Clause.{Clause}
use Rattle.sh_tree.specs.declared.tree.Command.{Command}
use Rattle.sh_tree.specs.declared.tree.Element.{Element}
use Rattle.sh_tree.specs.declared.tree.Kind.TheVariants as kind
use Rattle.sh_tree.specs.declared.tree.LoopKind.{LoopKind}
use Rattle.sh_tree.specs.declared.tree.Part.{Part, Param', Double', Arith'}
use Rattle.sh_tree.specs.declared.tree.Part.TheVariants as part
use Rattle.sh_tree.specs.declared.tree.Script.{Script}
use Rattle.sh_tree.specs.declared.tree.Span.{Span}
use Rattle.sh_tree.specs.declared.tree.Word.{Word}
use Rattle.sh_tree.specs.standard.Tree.{text_of}
use Rattle.sh_tree.specs.standard.Words.{words_of}
use Rattle.sh_tree.specs.standard.language.Commands.{is_assignment}
use Rattle.sh_tree.specs.Lists.{parts_from, words_from, for_words_from}
use Rattle.sh_tree.specs.standard.program.Syntax as p
use Rattle.sh_tree.specs.standard.program.Trees as trees
use Rattle.sh_tree.specs.standard.program.Words.{assignment_in, words_in}
use Rattle.sh_tree.proofs.ProgramForms.{operands_of_elements}
use Rattle.sh_tree.proofs.ProgramRules as rules
use Rattle.sh_runs.specs.Profile.{Static}
use Rattle.sh_quote.specs.Places.{word_places, parts_places}
use Rattle.sh_quote.specs.Steady.{for_words}
use Rattle.sh_quote.specs.Elements.{split}
use Rattle.sh_quote.specs.Patterns.{parts_begin}
use Rattle.sh_quote.specs.Quotations.{part_told}
use Rattle.sh_quote.specs.Unquoted.{part_form, begins_form, is_form, word_told, operand_told, declares, words_told, split_by, split_kind, kind_told}
use Rattle.sh_quote.proofs.OperandLemmas.{split_some, split_none}
use Rattle.sh_quote.proofs.PatternLemmas as patterns

-- words

parts_listed : (b : List ℕ) (numbers : Bool) (ps : List Part) → parts_places numbers (parts_from b ps) ≡ flat_map (part_told b numbers) ps
unfolding parts_places part_told parts_from
parts_listed b numbers [] = refl
parts_listed b numbers (x ∷ xs) = ap (λ l. part_told b numbers x ++ l) (parts_listed b numbers xs)

pub word_parts : (b : List ℕ) (steady : Bool) (w : Word) → word_told b steady w ≡ flat_map (part_told b (steady && not (parts_begin b w.parts))) w.parts
unfolding word_told word_places
word_parts b steady w =
    ap (λ t. parts_places (steady && not t) (parts_from b w.parts)) (patterns.parts_listed b w.parts) ∙ parts_listed b (steady && not (parts_begin b w.parts)) w.parts

-- assignments in form

by_text : (t : List ℕ) (w : p.Word) → is_some (assignment_in (p.more_parts (p.Plain t) w)) ≡ is_assignment t
unfolding assignment_in
by_text t w = go (is_assignment t) _
  where
    go : (x : Bool) (y : List ℕ × p.Word) → is_some (if x then Some y else None) ≡ x
    go true y = refl
    go false y = refl

other_part : (b : List ℕ) (x : Part) (w : p.Word) → is_some (assignment_in (p.more_parts (trees.part_of b x) w)) ≡ part_form b x
unfolding assignment_in part_form trees.part_of
other_part b (part.Plain s) w = by_text (text_of b s) w
other_part b (part.Escaped s) w = refl
other_part b (part.Single style s) w = refl
other_part b (Double' s shape row) w = refl
other_part b (Param' s subject operator) w = refl
other_part b (Arith' s shape row) w = refl
other_part b (part.Command style s t) w = refl
other_part b (part.Tilde s) w = refl
other_part b (part.Joined s) w = refl

form_listed : (b : List ℕ) (ps : List Part) → is_some (assignment_in (parts_from b ps)) ≡ begins_form b ps
unfolding assignment_in begins_form parts_from
form_listed b [] = refl
form_listed b (x ∷ xs) = other_part b x (parts_from b xs)

pub form_of_parts : (b : List ℕ) (w : Word) → is_form b w ≡ begins_form b w.parts
unfolding is_form
form_of_parts b w = form_listed b w.parts

-- commands

operands_listed : (b : List ℕ) (name : Static) (steady : Bool) (ws : List Word)
    → flat_map (word_places steady) (if declares name then filter (λ v. not (is_some (assignment_in v))) (words_in (words_from b ws)) else words_in (words_from b ws))
    ≡ flat_map (operand_told b (declares name) steady) ws
unfolding words_in words_from operand_told word_told is_form
operands_listed b name steady ws = go (declares name) ws
  where
    go : (d : Bool) (vs : List Word)
        → flat_map (word_places steady) (if d then filter (λ v. not (is_some (assignment_in v))) (words_in (words_from b vs)) else words_in (words_from b vs))
        ≡ flat_map (operand_told b d steady) vs
    go true [] = refl
    go false [] = refl
    go false (v ∷ vs) = ap (λ l. word_places steady (parts_from b v.parts) ++ l) (go false vs)
    go true (v ∷ vs) = kept (is_some (assignment_in (parts_from b v.parts))) v vs (go true vs)
      where
        kept : (x : Bool) (v : Word) (vs : List Word)
            → flat_map (word_places steady) (filter (λ v. not (is_some (assignment_in v))) (words_in (words_from b vs))) ≡ flat_map (operand_told b true steady) vs
            → flat_map (word_places steady) (cond (not x) (parts_from b v.parts ∷ filter (λ v. not (is_some (assignment_in v))) (words_in (words_from b vs))) (filter (λ v. not (is_some (assignment_in v))) (words_in (words_from b vs))))
            ≡ cond x [] (word_places steady (parts_from b v.parts)) ++ flat_map (operand_told b true steady) vs
        kept true v vs h = h
        kept false v vs h = ap (λ l. word_places steady (parts_from b v.parts) ++ l) h

words_listed : (b : List ℕ) (name : Static) (steady : Bool) (ws : List Word) → flat_map (word_places steady) (split_by name (words_in (words_from b ws))) ≡ words_told b name steady ws
unfolding words_in words_from split_by words_told word_told
words_listed b name steady [] = refl
words_listed b name steady (w ∷ ws) = ap (λ l. word_places steady (parts_from b w.parts) ++ l) (operands_listed b name steady ws)

pub no_words : (b : List ℕ) (name : Static) (steady : Bool) (ws : List Word) → ws ≡ [] → words_told b name steady ws ≡ []
unfolding words_told
no_words b name steady ws e = ap (words_told b name steady) e

pub first_word : (b : List ℕ) (name : Static) (steady : Bool) (ws rest : List Word) (w : Word) → ws ≡ w ∷ rest
    → words_told b name steady ws ≡ word_told b steady w ++ flat_map (operand_told b (declares name) steady) rest
unfolding words_told
first_word b name steady ws rest w e = ap (words_told b name steady) e

pub kind_told-Simple : (b : List ℕ) (name : Static) (steady : Bool) (es : List Element) → kind_told b name steady (kind.Simple es) ≡ words_told b name steady (words_of es)
unfolding kind_told split_kind
kind_told-Simple b name steady es =
    ap (λ k. flat_map (word_places steady) (split_kind name k)) (rules.kind_of-Simple b es)
    ∙ ap (λ ws. flat_map (word_places steady) (split_by name (words_in ws))) (operands_of_elements b es) ∙ words_listed b name steady (words_of es)

abbrev pub in_list : List ℕ → Bool → Option (List Word) → List Place
in_list b steady None = []
in_list b steady (Some ws) = flat_map (word_told b steady) ws

list_told : (b : List ℕ) (steady : Bool) (ws : List Word) → flat_map (word_places steady) (words_in (words_from b ws)) ≡ flat_map (word_told b steady) ws
unfolding words_in words_from word_told
list_told b steady [] = refl
list_told b steady (w ∷ ws) = ap (λ l. word_places steady (parts_from b w.parts) ++ l) (list_told b steady ws)

for_told : (b : List ℕ) (steady : Bool) (o : Option (List Word)) → flat_map (word_places steady) (for_words (for_words_from b o)) ≡ in_list b steady o
unfolding for_words for_words_from
for_told b steady None = refl
for_told b steady (Some ws) = list_told b steady ws

pub kind_told-For : (b : List ℕ) (name : Static) (steady : Bool) (s : Span) (o : Option (List Word)) (t : Script) → kind_told b name steady (kind.For s o t) ≡ in_list b steady o
unfolding kind_told split_kind
kind_told-For b name steady s o t = ap (λ k. flat_map (word_places steady) (split_kind name k)) (rules.kind_of-For b s o t) ∙ for_told b steady o

pub kind_told-Group : (b : List ℕ) (name : Static) (steady : Bool) (t : Script) → kind_told b name steady (kind.Group t) ≡ []
unfolding kind_told split_kind
kind_told-Group b name steady t = ap (λ y. flat_map (word_places steady) (split_kind name y)) (rules.kind_of-Group b t)

pub kind_told-Subshell : (b : List ℕ) (name : Static) (steady : Bool) (t : Script) → kind_told b name steady (kind.Subshell t) ≡ []
unfolding kind_told split_kind
kind_told-Subshell b name steady t = ap (λ y. flat_map (word_places steady) (split_kind name y)) (rules.kind_of-Subshell b t)

pub kind_told-Cond : (b : List ℕ) (name : Static) (steady : Bool) (cs : List Branch) (o : Option Script) → kind_told b name steady (kind.Cond cs o) ≡ []
unfolding kind_told split_kind
kind_told-Cond b name steady cs o = ap (λ y. flat_map (word_places steady) (split_kind name y)) (rules.kind_of-Cond b cs o)

pub kind_told-Loop : (b : List ℕ) (name : Static) (steady : Bool) (k : LoopKind) (c t : Script) → kind_told b name steady (kind.Loop k c t) ≡ []
unfolding kind_told split_kind
kind_told-Loop b name steady k c t = ap (λ y. flat_map (word_places steady) (split_kind name y)) (rules.kind_of-Loop b k c t)

pub kind_told-Branches : (b : List ℕ) (name : Static) (steady : Bool) (w : Word) (cs : List Clause) → kind_told b name steady (kind.Branches w cs) ≡ []
unfolding kind_told split_kind
kind_told-Branches b name steady w cs = ap (λ y. flat_map (word_places steady) (split_kind name y)) (rules.kind_of-Branches b w cs)

pub kind_told-Define : (b : List ℕ) (name : Static) (steady : Bool) (s : Span) (c : Command) → kind_told b name steady (kind.Define s c) ≡ []
unfolding kind_told split_kind
kind_told-Define b name steady s c = ap (λ y. flat_map (word_places steady) (split_kind name y)) (rules.kind_of-Define b s c)

pub ruleset kinds = (kind_told-Simple, kind_told-For, kind_told-Group, kind_told-Subshell, kind_told-Cond, kind_told-Loop, kind_told-Branches, kind_told-Define)

-- what is reported at all

pub on_err : {X E P : Type 0} (r : Result X E) → P → OnErr r P
on_err (Ok x) p = tt
on_err (Err e) p = p

pub some_in : {A : Type 0} (f : A → List Place) (xs : List A) (i : ℕ) (x : A) → i < length xs → x ≡ get_or xs i x → 0 < length (f x) → 0 < length (flat_map f xs)
some_in f xs i x l e h =
    let there : 0 < length (f (get_or xs i x)) = subst (λ y. 0 < length (f y)) e h in
    omega (arith, length-flat_map-take f xs i x l, there)

pub some_first : (f : Word → List Place) (ws rest : List Word) (w : Word) → Some (w, rest) ≡ split ws → 0 < length (f w) → 0 < length (flat_map f ws)
some_first f ws rest w e h = subst (λ vs. 0 < length (flat_map f vs)) (sym (split_some ws w rest e)) (omega (arith, h, length-append (f w) (flat_map f rest)))

pub some_behind : (f : Word → List Place) (ws rest : List Word) (w : Word) → Some (w, rest) ≡ split ws → 0 < length (flat_map f rest) → 0 < length (flat_map f ws)
some_behind f ws rest w e h = subst (λ vs. 0 < length (flat_map f vs)) (sym (split_some ws w rest e)) (omega (arith, h, length-append (f w) (flat_map f rest)))

-- the places so far and those of the words that are left are all, and there are some if there are
-- some of the words that are left
pub record Left (f : Word → List Place) (left ws : List Word) (now old : List Place) : Type 0 where
  pub all : now ++ flat_map f left ≡ old ++ flat_map f ws
  pub some : 0 < length (flat_map f left) → 0 < length (flat_map f ws)

-- what is added

pub nothing_told : (old more : List Place) → more ≡ [] → old ≡ old ++ more
nothing_told old more e = sym (ap (λ l. old ++ l) e ∙ append-nil old)

pub added_on : (f : Word → List Place) (ws rest : List Word) (w : Word) (old new : List Place) → Some (w, rest) ≡ split ws → new ≡ old ++ f w
    → new ++ flat_map f rest ≡ old ++ flat_map f ws
added_on f ws rest w old new h e = ap (λ l. l ++ flat_map f rest) e ∙ append_assoc old (f w) (flat_map f rest) ∙ ap (λ vs. old ++ flat_map f vs) (sym (split_some ws w rest h))

pub all_added : (f : Word → List Place) (ws : List Word) (old : List Place) → None ≡ split ws → old ≡ old ++ flat_map f ws
all_added f ws old h = nothing_told old _ (ap (flat_map f) (split_none ws h))

pub none_told : (b : List ℕ) (name : Static) (steady : Bool) (ws : List Word) (old : List Place) → None ≡ split ws → old ≡ old ++ words_told b name steady ws
none_told b name steady ws old h = nothing_told old _ (no_words b name steady ws (split_none ws h))

pub simple_told : {X E : Type 0} (r : Result X E) (b : List ℕ) (name : Static) (steady d : Bool) (ws rest : List Word) (w : Word) (old mid new : List Place)
    → Some (w, rest) ≡ split ws → d ≡ declares name → mid ≡ old ++ word_told b steady w → OnOk r (new ≡ mid ++ flat_map (operand_told b d steady) rest)
    → OnOk r (new ≡ old ++ words_told b name steady ws)
simple_told (Ok x) b name steady d ws rest w old mid new h e m n =
    n ∙ ap₂ (λ l y. l ++ flat_map (operand_told b y steady) rest) m e ∙ append_assoc old (word_told b steady w) (flat_map (operand_told b (declares name) steady) rest)
    ∙ ap (λ l. old ++ l) (sym (first_word b name steady ws rest w (split_some ws w rest h)))
simple_told (Err x) b name steady d ws rest w old mid new h e m n = tt

-- a simple command of which something is reported
pub simple_some : (b : List ℕ) (name : Static) (steady : Bool) (ws rest : List Word) (w : Word) → Some (w, rest) ≡ split ws → 0 < length (word_told b steady w)
    → 0 < length (words_told b name steady ws)
simple_some b name steady ws rest w h e =
    subst (λ ps. 0 < length ps) (sym (first_word b name steady ws rest w (split_some ws w rest h)))
    (omega (arith, e, length-append (word_told b steady w) (flat_map (operand_told b (declares name) steady) rest)))

pub simple_behind : {X E : Type 0} (r : Result X E) (b : List ℕ) (name : Static) (steady d : Bool) (ws rest : List Word) (w : Word) → Some (w, rest) ≡ split ws
    → d ≡ declares name → OnErr r (0 < length (flat_map (operand_told b d steady) rest)) → OnErr r (0 < length (words_told b name steady ws))
simple_behind (Ok x) b name steady d ws rest w h e n = tt
simple_behind (Err x) b name steady d ws rest w h e n =
    let more : 0 < length (flat_map (operand_told b (declares name) steady) rest) = subst (λ y. 0 < length (flat_map (operand_told b y steady) rest)) e n in
    subst (λ ps. 0 < length ps) (sym (first_word b name steady ws rest w (split_some ws w rest h)))
    (omega (arith, more, length-append (word_told b steady w) (flat_map (operand_told b (declares name) steady) rest)))
