-- A token of arithmetic that is a name is one in the text.
use Rattle.std.proofs.Common.{◌≡◌, ℕ, ◌+◌, ◌-◌, ◌<◌, ◌≤◌, ◌==◌, Bool, true, false, not, ◌&&◌, cond, Option, Some, List, [], ◌∷◌, length, drop, codes, nat_eq, refl, sym, ap, subst, ◌∙◌, arith, length-drop}
use Rattle.std.specs.List.{list_all, starts_with}
use Rattle.std.proofs.lemmas.Bool.{true≢false, and_parts, cond_both}
use Rattle.sh_tree.specs.declared.refusal.Form.TheVariants as form
use Rattle.sh_tree.specs.declared.token.arithmetic.Figure.{Figure}
use Rattle.sh_tree.specs.declared.token.arithmetic.Figure.TheVariants as figure
use Rattle.sh_tree.specs.declared.token.arithmetic.Lexeme.{Lexeme}
use Rattle.sh_tree.specs.standard.language.Arithmetic.{operator_table, name_figure, unknown, figure_by, figure_of, is_split, lexeme_start, lexeme}
use Rattle.sh_tree.specs.standard.language.Bytes.{is_digit, is_name_start, is_first, is_backslash, is_name, name_length, longest}
use Rattle.sh_tree.specs.standard.language.Reading.{figure_at, figure_span, over, is_figure_name}
use Rattle.sh_tree.specs.standard.language.States.{Spot}
use Rattle.sh_tree.specs.standard.language.Trees.{span}
use Rattle.sh_tree.specs.standard.Tree.{text_of}
use Rattle.sh_tree.proofs.FirstLemmas.{first_some, name_some}
use Rattle.sh_reads.proofs.FrontLemmas.{Front, Stands, stands_at, name_run, name_stands}

-- no operator is a name
longest_other : (table : List (List ℕ × Figure)) (cs : List ℕ) → list_all (λ x. not (is_figure_name x.1)) table ≡ true → is_figure_name (figure_by cs (longest table cs)).0 ≡ false
unfolding longest unknown
longest_other [] cs h = go (length cs == 1 && is_first is_backslash cs)
  where
    go : (t : Bool) → is_figure_name (cond {A = Figure × ℕ} t (figure.FinalBackslash, 1) (figure.Bad, 1)).0 ≡ false
    go true = refl
    go false = refl
longest_other (x ∷ xs) cs h =
    let both = and_parts (not (is_figure_name x.1)) (list_all (λ y. not (is_figure_name y.1)) xs) h in
    go (starts_with nat_eq cs x.0) (longest xs cs) both.0 (longest_other xs cs both.1)
  where
    unname : (t : Bool) → not t ≡ true → t ≡ false
    unname true e = absurd (true≢false (sym e))
    unname false e = refl

    go : (t : Bool) (o : Option (Figure × ℕ)) → not (is_figure_name x.1) ≡ true → is_figure_name (figure_by cs o).0 ≡ false
        → is_figure_name (figure_by cs (cond t (Some (x.1, length x.0)) o)).0 ≡ false
    go true o a k = unname (is_figure_name x.1) a
    go false o a k = k

-- the figure is a name where one begins, as long as it is
Named : List ℕ → Figure × ℕ → Type 0
Named cs found = is_figure_name found.0 ≡ true → (is_first is_name_start cs ≡ true) × (found.1 ≡ name_length cs)

figure_named : (cs : List ℕ) → Named cs (figure_of cs)
unfolding figure_of Named name_figure
figure_named cs =
    cond_both {A = Figure × ℕ} (length cs == 0) _ _ (Named cs) (λ none h. absurd (true≢false (sym h))) (λ some.
    cond_both {A = Figure × ℕ} (is_first is_name_start cs) _ _ (Named cs)
    (λ name. cond_both {A = Figure × ℕ} (name_length cs == 6 && starts_with nat_eq cs (codes "sizeof")) _ _ (Named cs) (λ is h. absurd (true≢false (sym h))) (λ other h. (name, refl)))
    (λ other. cond_both {A = Figure × ℕ} (is_first is_digit cs) _ _ (Named cs) (λ digit h. absurd (true≢false (sym h)))
    (λ operator h. absurd (true≢false (sym h ∙ longest_other operator_table cs refl)))))

-- the name that a token of arithmetic is
pub figure_is_name : (whole b : List ℕ) (s : Spot) → Front whole b → figure_at b s ≡ figure.Name → is_name (text_of whole (figure_span b s)) ≡ true
unfolding lexeme Named
figure_is_name whole b s f is =
    let i = lexeme_start b s.at in
    let cs = drop i b in
    go i cs (is_split cs (figure_of cs).1) (figure_of cs) (stands_at whole b i f) (figure_named cs) (ap is_figure_name is)
  where
    go : (i : ℕ) (cs : List ℕ) (t : Bool) (found : Figure × ℕ) → Stands whole i cs → Named cs found
        → is_figure_name (cond {A = Lexeme} t (record { figure = figure.LeftOut form.Continuation; start = i + found.1; end = i + found.1 }) (record { figure = found.0; start = i; end = i + found.1 })).figure ≡ true
        → is_name (text_of whole (span (cond {A = Lexeme} t (record { figure = figure.LeftOut form.Continuation; start = i + found.1; end = i + found.1 }) (record { figure = found.0; start = i; end = i + found.1 })).start (cond {A = Lexeme} t (record { figure = figure.LeftOut form.Continuation; start = i + found.1; end = i + found.1 }) (record { figure = found.0; start = i; end = i + found.1 })).end)) ≡ true
    go i cs true found at named h = absurd (true≢false (sym h))
    go i cs false found at named h =
        let both = named h in
        subst (λ n. is_name (text_of whole (span i (i + n))) ≡ true) (sym both.1) (name_stands whole i cs at both.0)

-- a name takes a byte of the text
pub figure_takes : (b : List ℕ) (s : Spot) → figure_at b s ≡ figure.Name → ((figure_span b s).start < (over b s).at) × ((figure_span b s).start < length b)
unfolding lexeme Named
figure_takes b s is =
    let i = lexeme_start b s.at in
    let cs = drop i b in
    let both = go i cs (is_split cs (figure_of cs).1) (figure_of cs) (figure_named cs) (ap is_figure_name is) in
    (both.0, both.1 (length-drop i b))
  where
    named_some : (cs : List ℕ) → is_first is_name_start cs ≡ true → (0 < name_length cs) × (0 < length cs)
    named_some cs h = let some = first_some is_name_start cs h in let first = name_run cs h in let long = name_some cs h in (omega arith, some)

    go : (i : ℕ) (cs : List ℕ) (t : Bool) (found : Figure × ℕ) → Named cs found
        → is_figure_name (cond {A = Lexeme} t (record { figure = figure.LeftOut form.Continuation; start = i + found.1; end = i + found.1 }) (record { figure = found.0; start = i; end = i + found.1 })).figure ≡ true
        → ((cond {A = Lexeme} t (record { figure = figure.LeftOut form.Continuation; start = i + found.1; end = i + found.1 }) (record { figure = found.0; start = i; end = i + found.1 })).start
        < (cond {A = Lexeme} t (record { figure = figure.LeftOut form.Continuation; start = i + found.1; end = i + found.1 }) (record { figure = found.0; start = i; end = i + found.1 })).end)
        × (length cs ≡ length b - i
        → (cond {A = Lexeme} t (record { figure = figure.LeftOut form.Continuation; start = i + found.1; end = i + found.1 }) (record { figure = found.0; start = i; end = i + found.1 })).start < length b)
    go i cs true found named h = absurd (true≢false (sym h))
    go i cs false found named h =
        let both = named h in
        let some = named_some cs both.0 in
        let a = some.0 in
        let c = some.1 in
        let e = both.1 in
        (omega arith, (λ l. omega arith))

-- where a token of arithmetic begins and ends
pub figure_moves : (b : List ℕ) (s : Spot) → (s.at ≤ (lexeme b s.at).start) × ((lexeme b s.at).start ≤ (lexeme b s.at).end)
unfolding lexeme lexeme_start
figure_moves b s =
    let i = lexeme_start b s.at in
    let cs = drop i b in
    go (is_split cs (figure_of cs).1) i (figure_of cs) (omega arith)
  where
    go : (t : Bool) (i : ℕ) (found : Figure × ℕ) → s.at ≤ i
        → (s.at ≤ (cond {A = Lexeme} t (record { figure = figure.LeftOut form.Continuation; start = i + found.1; end = i + found.1 }) (record { figure = found.0; start = i; end = i + found.1 })).start)
        × ((cond {A = Lexeme} t (record { figure = figure.LeftOut form.Continuation; start = i + found.1; end = i + found.1 }) (record { figure = found.0; start = i; end = i + found.1 })).start
        ≤ (cond {A = Lexeme} t (record { figure = figure.LeftOut form.Continuation; start = i + found.1; end = i + found.1 }) (record { figure = found.0; start = i; end = i + found.1 })).end)
    go true i found h = (omega arith, omega arith)
    go false i found h = (h, omega arith)
