-- Operands by which a utility could set IFS, by what is kept of them.
use Rattle.std.proofs.Common.{◌≡◌, ℕ, ◌<◌, ◌≤◌, ◌-◌, Bool, true, ◌&&◌, ◌||◌, List, [], ◌∷◌, length, take, drop, get_or, map, Some, None, slice_get, refl, sym, ap, ap₂, ◌∙◌, arith}
use Rattle.std.specs.List.{list_any, list_all}
use Rattle.std.proofs.lemmas.Option.{same_Some}
use Rattle.std.proofs.lemmas.List.{take_all}
use Rattle.sh_tree.specs.declared.tree.Element.{Element}
use Rattle.sh_tree.specs.declared.tree.Word.{Word}
use Rattle.sh_tree.specs.standard.Words.{word_of, words_of}
use Rattle.sh_runs.specs.Profile.{Static}
use Rattle.sh_table.specs.WordTexts.{text_in}
use Rattle.sh_table.specs.declared.word_text.WordText.{WordText}
use Rattle.sh_quote.specs.Elements.{split}
use Rattle.sh_quote.specs.Operands.{names_other, is_one_field, first_options, all_options, parts_declared, all_declared, is_ifs_static}

-- words, one after another

pub split_some : (ws : List Word) (w : Word) (rest : List Word) → Some (w, rest) ≡ split ws → ws ≡ w ∷ rest
unfolding split
split_some [] w rest e = cc
split_some (v ∷ vs) w rest e = let same = same_Some (w, rest) (v, vs) e in sym (ap₂ (λ x xs. x ∷ xs) (ap (λ q. q.0) same) (ap (λ q. q.1) same))

pub split_none : (ws : List Word) → None ≡ split ws → ws ≡ []
unfolding split
split_none [] e = refl
split_none (v ∷ vs) e = cc

-- `getopts`

pub getopts_none : (b : List ℕ) (ws : List Word) (ts : List Static) → None ≡ slice_get ws 0 → all_options b ws ts ≡ true
unfolding all_options
getopts_none b [] ts e = refl
getopts_none b (w ∷ ws) ts e = cc

pub getopts_first : (b : List ℕ) (ws : List Word) (w : Word) (ts : List Static) → Some w ≡ slice_get ws 0 → all_options b ws ts ≡ first_options b w ts
unfolding all_options
getopts_first b [] w ts e = cc
getopts_first b (v ∷ vs) w ts e = let same : w ≡ v = cc in ap (λ x. first_options b x ts) (sym same)

pub others_named : (b : List ℕ) (ts : List WordText) → list_all names_other (map (text_in b) ts) ≡ list_all (λ t. names_other (text_in b t)) ts
others_named b [] = refl
others_named b (t ∷ ts) = ap (λ y. names_other (text_in b t) && y) (others_named b ts)

-- `read`

pub any_listed : (b : List ℕ) (ts : List WordText) → list_any is_ifs_static (map (text_in b) ts) ≡ list_any (λ t. is_ifs_static (text_in b t)) ts
any_listed b [] = refl
any_listed b (t ∷ ts) = ap (λ y. is_ifs_static (text_in b t) || y) (any_listed b ts)

-- words

pub at_word : (es : List Element) (e : Element) (w : Word) → 1 ≤ length es → e ≡ get_or es 0 e → Some w ≡ word_of e
    → Some (w, words_of (take (length es - 1) (drop 1 es))) ≡ split (words_of es)
unfolding split
at_word [] e w l at v = absurd (omega (arith, l))
at_word (x ∷ xs) e w l at v =
    let here : word_of x ≡ Some w = ap word_of (sym at) ∙ sym v in
    rw (here, take_all (length (x ∷ xs) - 1) xs (omega arith)) refl

pub no_word : (es : List Element) → length es < 1 → None ≡ split (words_of es)
unfolding split
no_word [] h = refl
no_word (x ∷ xs) h = absurd (omega (arith, h))

-- an operand more

pub options_at : (b : List ℕ) (w : Word) (ts : List WordText) (x : WordText) (r : Bool) → 1 ≤ length ts → x ≡ get_or ts 0 x → is_one_field b w (text_in b x) ≡ true
    → r ≡ list_all (λ y. names_other (text_in b y)) (take (length ts - 1) (drop 1 ts)) → r ≡ first_options b w (map (text_in b) ts)
unfolding first_options
options_at b w [] x r l at v h = absurd (omega (arith, l))
options_at b w (y ∷ ys) x r l at v h =
    let here : is_one_field b w (text_in b y) ≡ true = ap (λ z. is_one_field b w (text_in b z)) (sym at) ∙ v in
    h ∙ ap (list_all (λ z. names_other (text_in b z))) (take_all (length (y ∷ ys) - 1) ys (omega arith)) ∙ sym (others_named b ys) ∙ sym (rw here refl)

pub no_texts : (b : List ℕ) (ws : List Word) (ts : List WordText) → length ts < 1 → true ≡ all_declared b ws (map (text_in b) ts)
unfolding all_declared
no_texts b [] [] h = refl
no_texts b (w ∷ ws) [] h = refl
no_texts b ws (t ∷ ts) h = absurd (omega (arith, h))

declared_more : (b : List ℕ) (rest : List Word) (w : Word) (t : Static) (ts : List Static) → parts_declared b w.parts t ≡ true
    → all_declared b (w ∷ rest) (t ∷ ts) ≡ all_declared b rest ts
unfolding all_declared
declared_more b rest w t ts e = ap (λ x. x && all_declared b rest ts) e

pub declared_on : (b : List ℕ) (ws rest : List Word) (w : Word) (ts : List WordText) (x : WordText) → Some (w, rest) ≡ split ws → 1 ≤ length ts → x ≡ get_or ts 0 x
    → parts_declared b w.parts (text_in b x) ≡ true → all_declared b rest (map (text_in b) (take (length ts - 1) (drop 1 ts))) ≡ all_declared b ws (map (text_in b) ts)
declared_on b ws rest w [] x h l at v = absurd (omega (arith, l))
declared_on b ws rest w (y ∷ ys) x h l at v =
    let here : parts_declared b w.parts (text_in b y) ≡ true = ap (λ z. parts_declared b w.parts (text_in b z)) (sym at) ∙ v in
    ap (λ zs. all_declared b rest (map (text_in b) zs)) (take_all (length (y ∷ ys) - 1) ys (omega arith))
    ∙ sym (declared_more b rest w (text_in b y) (map (text_in b) ys) here) ∙ ap (λ vs. all_declared b vs (map (text_in b) (y ∷ ys))) (sym (split_some ws w rest h))
