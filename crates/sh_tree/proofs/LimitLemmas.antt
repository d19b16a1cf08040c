-- Texts of so many levels: they are read within a limit that is no less, and only there.
use Rattle.std.proofs.Common.{◌≡◌, ◌==◌, ℕ, zero, suc, ◌+◌, ◌-◌, ◌<◌, ◌≤◌, Bool, true, false, ◌&&◌, List, [], ◌∷◌, codes, take, refl, sym, ◌∙◌, subst, arith}
use Rattle.std.proofs.lemmas.Bool.{true≢false, and_parts, eqb-true}
use Rattle.sh_tree.specs.declared.tree.Action.TheVariants as action
use Rattle.sh_tree.specs.declared.tree.Element.TheVariants as element
use Rattle.sh_tree.specs.declared.tree.Expr.{Expr}
use Rattle.sh_tree.specs.declared.tree.Expr.TheVariants as expr
use Rattle.sh_tree.specs.declared.tree.ParameterOperator.TheVariants as operator
use Rattle.sh_tree.specs.declared.tree.Part.{Part}
use Rattle.sh_tree.specs.declared.tree.Part.TheVariants as part
use Rattle.sh_tree.specs.declared.tree.Script.{Script}
use Rattle.sh_tree.specs.declared.tree.Subject.{Subject}
use Rattle.sh_tree.specs.declared.tree.Subject.TheVariants.{Name}
use Rattle.sh_tree.specs.declared.tree.Unary.TheVariants as unary
use Rattle.sh_tree.specs.declared.token.arithmetic.Figure.{Figure}
use Rattle.sh_tree.specs.declared.token.arithmetic.Figure.TheVariants as figure
use Rattle.sh_tree.specs.declared.token.command.Stage.TheVariants.{First}
use Rattle.sh_tree.specs.declared.token.word.Context.{Context}
use Rattle.sh_tree.specs.declared.token.word.Sign.{Sign}
use Rattle.sh_tree.specs.declared.token.word.Sign.TheVariants as sign
use Rattle.sh_tree.specs.declared.token.word.Site.TheVariants as site
use Rattle.sh_tree.specs.standard.language.Arithmetic.{lexeme, unary_level, unary_of}
use Rattle.sh_tree.specs.standard.language.Contexts.{in_document_of, in_unsplit, in_word}
use Rattle.sh_tree.specs.standard.language.States.{Document, Spot, deeper, nth}
use Rattle.sh_tree.specs.standard.language.Words.{in_arithmetic, in_use}
use Rattle.sh_tree.specs.standard.language.Trees.{param, span, word}
use Rattle.sh_tree.specs.standard.language.Reading as r
use Rattle.sh_tree.specs.standard.language.Reading.{Reads, ReadsAndOr, ReadsBreaks, ReadsCommand, ReadsCompound, ReadsConditional, ReadsDocuments, ReadsElements, ReadsExpression, ReadsLevel, ReadsList, ReadsParts, ReadsRedirect, ReadsScript, ReadsTo, ReadsUnary, ReadsWithin, ReadsWord, after, figure_at, over, sign_at}
use Rattle.sh_tree.specs.declared.tree.CommandStyle.TheVariants.{Paren}
use Rattle.sh_tree.specs.declared.token.command.Lead.TheVariants as lead
use Rattle.sh_tree.specs.declared.token.command.Reserved.TheVariants as reserved
use Rattle.sh_tree.specs.standard.language.HereDocuments.{Mark}
use Rattle.sh_tree.specs.examples.Language.{bare, lone, plain, simple, utility}
use Rattle.sh_tree.specs.examples.Limits as limits
use Rattle.sh_tree.specs.examples.Limits.{IsBeyond, IsWithin, body_depth_script, body_depth_text, complements_text, defaults_text}
use Rattle.sh_tree.proofs.Inversions.{apart, first_part, opening_word, word_parts}
use Rattle.sh_tree.proofs.LanguageLemmas.{alone_reads, at_close, at_token, at_word, computes, loosest_level, no_bodies, read_to}

-- Braced expansions

unfoldable is_default : Sign → Bool
is_default (sign.Use q action.Default false) = true
is_default _ = false

unfoldable is_stop : Sign → Bool
is_stop sign.Stop = true
is_stop _ = false

default_is : (g : Sign) → is_default g ≡ true → (q : Subject) × (g ≡ sign.Use q action.Default false)
unfolding is_default
default_is (sign.Use q action.Default false) h = (q, refl)
default_is _ h = absurd (true≢false (sym h))

stop_is : (g : Sign) → is_stop g ≡ true → g ≡ sign.Stop
unfolding is_stop
stop_is sign.Stop h = refl
stop_is _ h = absurd (true≢false (sym h))

-- the word of a braced expansion outside quotes, from i on
abbrev in_default : ℕ → Context
in_default i = record { site = site.Braced; origin = i; colons = false; fields = false; strip = false; body = false; backquotes = true }

module _ (b : List ℕ) where
  abbrev default_at : ℕ → Sign
  default_at i = sign_at b (in_default i) 0 (at_word i 1 0)

  abbrev default_end : ℕ → ℕ → ℕ
  default_end i j = after b (in_default i) 0 (at_word j 1 0)

  -- `${x-` at i
  unfoldable opens : ℕ → Bool
  opens i = is_default (default_at i) && (default_end i i == i + 4)

  -- `}` at e, in the word from i on
  unfoldable closes : ℕ → ℕ → Bool
  closes i e = is_stop (sign_at b (in_default i) 0 (at_word e 1 0)) && (default_end i e == e + 1)

  -- so many expansions, each in the one before it, from i on
  unfoldable has_openings : ℕ → ℕ → Bool
  has_openings zero i = true
  has_openings (suc n) i = opens i && has_openings n (i + 4)

  -- and their ends, the word from i on closed at e
  unfoldable has_defaults : ℕ → ℕ → ℕ → Bool
  has_defaults zero i e = (i == e) && closes i e
  has_defaults (suc n) i e = opens i && has_defaults n (i + 4) (e - 1) && (e - 1 + 1 == e) && closes i e

module _ (b : List ℕ) (i : ℕ) where
  opens_at : opens b i ≡ true → (is_default (default_at b i) ≡ true) × (default_end b i i ≡ i + 4)
  unfolding opens
  opens_at h =
      let both = and_parts (is_default (default_at b i)) (default_end b i i == i + 4) h in
      (both.0, eqb-true (default_end b i i) (i + 4) both.1)

  closes_at : (e : ℕ) → closes b i e ≡ true → (is_stop (sign_at b (in_default i) 0 (at_word e 1 0)) ≡ true) × (default_end b i e ≡ e + 1)
  unfolding closes
  closes_at e h =
      let both = and_parts (is_stop (sign_at b (in_default i) 0 (at_word e 1 0))) (default_end b i e == e + 1) h in
      (both.0, eqb-true (default_end b i e) (e + 1) both.1)

  stop_read : {limit : ℕ} (e d : ℕ) → closes b i e ≡ true → ReadsParts limit b (in_default i) 0 (at_word e 1 d) (at_word (e + 1) 1 d) []
  stop_read {limit = limit} e d h =
      let c = closes_at e h in
      subst (λ j. ReadsParts limit b (in_default i) 0 (at_word e 1 d) (at_word j 1 d) []) c.1 (r.stop (stop_is (sign_at b (in_default i) 0 (at_word e 1 0)) c.0))

defaults_read : {limit : ℕ} (b : List ℕ) (n i e d : ℕ) → has_defaults b n i e ≡ true → d + n ≤ limit
    → (ps : List Part) × ReadsParts limit b (in_default i) 0 (at_word i 1 d) (at_word (e + 1) 1 d) ps
unfolding has_defaults
defaults_read {limit = limit} b zero i e d h below =
    let all = and_parts (i == e) (closes b i e) h in
    let same : e ≡ i = sym (eqb-true i e all.0) in
    ([], subst (λ j. ReadsParts limit b (in_default i) 0 (at_word j 1 d) (at_word (e + 1) 1 d) []) same (stop_read b i e d all.1))
defaults_read {limit = limit} b (suc n) i e d h below =
    let all = and_parts (opens b i && has_defaults b n (i + 4) (e - 1) && (e - 1 + 1 == e)) (closes b i e) h in
    let some = and_parts (opens b i && has_defaults b n (i + 4) (e - 1)) (e - 1 + 1 == e) all.0 in
    let first = and_parts (opens b i) (has_defaults b n (i + 4) (e - 1)) some.0 in
    let opening = opens_at b i first.0 in
    let default = default_is (default_at b i) opening.0 in
    let end : e - 1 + 1 ≡ e = eqb-true (e - 1 + 1) e some.1 in
    let room : d < limit = omega arith in
    let deep : d + 1 + n ≤ limit = omega arith in
    let rest = defaults_read {limit = limit} b n (i + 4) (e - 1) (d + 1) first.1 deep in
    let ps : List Part = rest.0 in
    let parts : ReadsParts limit b (in_default (i + 4)) 0 (at_word (i + 4) 1 (d + 1)) (at_word e 1 (d + 1)) ps =
    subst (λ j. ReadsParts limit b (in_default (i + 4)) 0 (at_word (i + 4) 1 (d + 1)) (at_word j 1 (d + 1)) ps) end rest.1 in
    let inner : ReadsParts limit b (in_use (in_default i) action.Default (default_end b i i)) 0 (deeper (default_end b i i) (at_word i 1 d)) (at_word e 1 (d + 1)) ps =
    subst (λ j. ReadsParts limit b (in_use (in_default i) action.Default j) 0 (deeper j (at_word i 1 d)) (at_word e 1 (d + 1)) ps) (sym opening.1) parts in
    (_, r.more default.1 (r.use_word room inner) (stop_read b i e d all.1))

defaults_deep : {limit : ℕ} (b : List ℕ) (n i d : ℕ) (u : Spot) (ps : List Part) → has_openings b n i ≡ true → d ≤ limit
    → ReadsParts limit b (in_default i) 0 (at_word i 1 d) u ps → d + n ≤ limit
unfolding has_openings
defaults_deep b zero i d u ps h below t = omega arith
defaults_deep {limit = limit} b (suc n) i d u ps h below t =
    let all = and_parts (opens b i) (has_openings b n (i + 4)) h in
    let opening = opens_at b i all.0 in
    let default = default_is (default_at b i) opening.0 in
    let f = first_part (sign.Use default.0 action.Default false) default.1 refl t in
    let room : d < limit = f.4.4 in
    let deep : d + 1 ≤ limit = omega arith in
    let inner = subst (λ j. ReadsParts limit b (in_use (in_default i) action.Default j) 0 (deeper j (at_word i 1 d)) f.4.0 f.4.1) opening.1 f.4.5 in
    let rest : d + 1 + n ≤ limit = defaults_deep {limit = limit} b n (i + 4) (d + 1) f.4.0 f.4.1 all.1 deep inner in
    omega arith

-- Unary operators

unfoldable is_complement : Figure → Bool
is_complement figure.Complement = true
is_complement _ = false

unfoldable is_constant : Figure → Bool
is_constant figure.Constant = true
is_constant _ = false

complement_is : (g : Figure) → is_complement g ≡ true → g ≡ figure.Complement
unfolding is_complement
complement_is figure.Complement h = refl
complement_is _ h = absurd (true≢false (sym h))

constant_is : (g : Figure) → is_constant g ≡ true → g ≡ figure.Constant
unfolding is_constant
constant_is figure.Constant h = refl
constant_is _ h = absurd (true≢false (sym h))

module _ (b : List ℕ) where
  -- `~` at i
  unfoldable complements : ℕ → Bool
  complements i = is_complement (lexeme b i).figure && ((lexeme b i).end == i + 1)

  unfoldable has_signs : ℕ → ℕ → Bool
  has_signs zero i = true
  has_signs (suc n) i = complements i && has_signs n (i + 1)

  -- so many from i on, and a constant that ends at e
  unfoldable has_operand : ℕ → ℕ → ℕ → Bool
  has_operand zero i e = is_constant (lexeme b i).figure && ((lexeme b i).end == e)
  has_operand (suc n) i e = complements i && has_operand n (i + 1) e

complements_read : {limit : ℕ} (b : List ℕ) (x : Context) (n i e d : ℕ) → has_operand b n i e ≡ true → d + n ≤ limit
    → (y : Expr) × ReadsLevel limit b x 10 (at_word i 1 d) (at_word e 1 d) y
unfolding has_operand complements unary_of
complements_read {limit = limit} b x zero i e d h below =
    let all = and_parts (is_constant (lexeme b i).figure) ((lexeme b i).end == e) h in
    let end : (lexeme b i).end ≡ e = eqb-true (lexeme b i).end e all.1 in
    let y : Expr = expr.Constant (span (lexeme b i).start (lexeme b i).end) in
    (y, subst (λ j. ReadsLevel limit b x 10 (at_word i 1 d) (at_word j 1 d) y) end (r.operand refl (constant_is (lexeme b i).figure all.0) r.constant))
complements_read {limit = limit} b x (suc n) i e d h below =
    let all = and_parts (complements b i) (has_operand b n (i + 1) e) h in
    let first = and_parts (is_complement (lexeme b i).figure) ((lexeme b i).end == i + 1) all.0 in
    let end : (lexeme b i).end ≡ i + 1 = eqb-true (lexeme b i).end (i + 1) first.1 in
    let room : d < limit = omega arith in
    let deep : d + 1 + n ≤ limit = omega arith in
    let rest = complements_read {limit = limit} b x n (i + 1) e (d + 1) all.1 deep in
    let y : Expr = rest.0 in
    let inner : ReadsLevel limit b x 10 (deeper (lexeme b i).end (at_word i 1 d)) (at_word e 1 (d + 1)) y =
    subst (λ j. ReadsLevel limit b x 10 (deeper j (at_word i 1 d)) (at_word e 1 (d + 1)) y) (sym end) rest.1 in
    (expr.Unary unary.Complement y, r.operand refl (complement_is (lexeme b i).figure first.0) (r.signed refl room inner))

-- a level is read by the tightest one first
tightest : {limit : ℕ} {b : List ℕ} {x : Context} {l : ℕ} {s u : Spot} {e : Expr} → ReadsLevel limit b x l s u e
    → (v : Spot) × (y : Expr) × ReadsUnary limit b x (figure_at b s) s v y
tightest (r.chain l h o) = tightest h
tightest {limit = limit} {b = b} {x = x} {s = s} {u = u} {e = e} (r.operand l i h) = (u, e, subst (λ g. ReadsUnary limit b x g s u e) (sym i) h)

conditional_tightest : {limit : ℕ} {b : List ℕ} {x : Context} {s u : Spot} {e : Expr} → ReadsConditional limit b x s u e
    → (v : Spot) × (y : Expr) × ReadsUnary limit b x (figure_at b s) s v y
conditional_tightest (r.one_level h q) = tightest h
conditional_tightest (r.choice h q l y c n) = tightest h

expression_tightest : {limit : ℕ} {b : List ℕ} {x : Context} {s u : Spot} {e : Expr} → figure_at b s ≡ figure.Complement → ReadsExpression limit b x s u e
    → (v : Spot) × (y : Expr) × ReadsUnary limit b x (figure_at b s) s v y
unfolding is_complement
expression_tightest is (r.assignment n a l h) = absurd (apart is_complement (sym is ∙ n) refl refl)
expression_tightest is (r.no_assignment a h) = conditional_tightest h

signed_is : {limit : ℕ} {b : List ℕ} {x : Context} {g : Figure} {s u : Spot} {e : Expr} → g ≡ figure.Complement → ReadsUnary limit b x g s u e
    → (s.depth < limit) × (v : Spot) × (y : Expr) × ReadsLevel limit b x unary_level (deeper (over b s).at s) v y
signed_is is r.constant = cc
signed_is is r.variable = cc
signed_is is (r.signed {u = u} {e = e} o l h) = (l, u, e, h)
signed_is is (r.parenthesis l h c) = cc
signed_is is (r.expansion i e h) = cc

complements_deep : {limit : ℕ} (b : List ℕ) (x : Context) (n i d : ℕ) (u : Spot) (e : Expr) → has_signs b n i ≡ true → d ≤ limit
    → ReadsUnary limit b x (figure_at b (at_word i 1 d)) (at_word i 1 d) u e → d + n ≤ limit
unfolding has_signs complements
complements_deep b x zero i d u e h below t = omega arith
complements_deep {limit = limit} b x (suc n) i d u e h below t =
    let all = and_parts (complements b i) (has_signs b n (i + 1)) h in
    let first = and_parts (is_complement (lexeme b i).figure) ((lexeme b i).end == i + 1) all.0 in
    let end : (lexeme b i).end ≡ i + 1 = eqb-true (lexeme b i).end (i + 1) first.1 in
    let q = signed_is (complement_is (lexeme b i).figure first.0) t in
    let room : d < limit = q.0 in
    let deep : d + 1 ≤ limit = omega arith in
    let inner = subst (λ j. ReadsLevel limit b x unary_level (deeper j (at_word i 1 d)) q.1 q.2) end q.3 in
    let next = tightest inner in
    let rest : d + 1 + n ≤ limit = complements_deep {limit = limit} b x n (i + 1) (d + 1) next.0 next.1 all.1 deep next.2 in
    omega arith

-- Whole texts

pub defaults_within : IsWithin (defaults_text 64)
unfolding computes limits.copies has_defaults opens closes is_default is_stop
defaults_within =
    let below : 1 + 63 ≤ 64 = omega arith in
    let room : 0 < 64 = omega arith in
    let few : 1 ≤ 65535 = omega arith in
    let inner = defaults_read {limit = 64} (defaults_text 64) 63 4 319 1 refl below in
    let operand : ReadsParts 64 (defaults_text 64) (in_use (in_word 0) action.Default 4) 0 (at_word 4 1 1) (at_word 320 1 1) inner.0 = inner.1 in
    let parts : List Part = param 0 320 (Name (span 2 3)) (operator.Use action.Default false (word 4 319 inner.0)) ∷ [] in
    let whole_word : ReadsWord 64 (defaults_text 64) (in_word 0) (at_word 0 1 0) (at_word 320 1 0) (word 0 320 parts) =
    r.whole_word (r.more refl (r.use_word room operand) (r.stop refl)) refl refl in
    let elements : ReadsElements 64 (defaults_text 64) no_bodies First (at_token 0 1 0) (at_token 320 1 0) (element.Word (word 0 320 parts) ∷ []) =
    r.word_element refl whole_word (r.no_element refl) in
    let list : ReadsAndOr 64 (defaults_text 64) no_bodies (at_token 0 0 0) (at_token 320 1 0) _ = alone_reads (r.simple_command refl elements) refl refl refl in (
      lone (simple 1 0 (element.Word (word 0 320 parts) ∷ [])),
      (
        1,
        record { no_nul = refl; end = at_word 320 1 0; script = r.script {u = at_token 320 1 0} (r.sequence (r.list (r.no_break refl) refl (r.last_item list refl refl))) refl; to_end = refl; commands = refl },
        few,
      ),
    )

more_defaults_read : (t : Script) × Reads (defaults_text 65) t
unfolding computes limits.copies has_defaults opens closes is_default is_stop
more_defaults_read =
    let below : 1 + 64 ≤ 65 = omega arith in
    let room : 0 < 65 = omega arith in
    let inner = defaults_read {limit = 65} (defaults_text 65) 64 4 324 1 refl below in
    let operand : ReadsParts 65 (defaults_text 65) (in_use (in_word 0) action.Default 4) 0 (at_word 4 1 1) (at_word 325 1 1) inner.0 = inner.1 in
    let parts : List Part = param 0 325 (Name (span 2 3)) (operator.Use action.Default false (word 4 324 inner.0)) ∷ [] in
    let whole_word : ReadsWord 65 (defaults_text 65) (in_word 0) (at_word 0 1 0) (at_word 325 1 0) (word 0 325 parts) =
    r.whole_word (r.more refl (r.use_word room operand) (r.stop refl)) refl refl in
    let elements : ReadsElements 65 (defaults_text 65) no_bodies First (at_token 0 1 0) (at_token 325 1 0) (element.Word (word 0 325 parts) ∷ []) =
    r.word_element refl whole_word (r.no_element refl) in
    let list : ReadsAndOr 65 (defaults_text 65) no_bodies (at_token 0 0 0) (at_token 325 1 0) _ = alone_reads (r.simple_command refl elements) refl refl refl in (
      lone (simple 1 0 (element.Word (word 0 325 parts) ∷ [])),
      (
        65,
        1,
        record { no_nul = refl; end = at_word 325 1 0; script = r.script {u = at_token 325 1 0} (r.sequence (r.list (r.no_break refl) refl (r.last_item list refl refl))) refl; to_end = refl; commands = refl },
      ),
    )

more_defaults_none : (t : Script) → ReadsWithin (defaults_text 65) t → ⊥
unfolding computes limits.copies has_openings opens is_default
more_defaults_none t h =
    let w = opening_word refl h.1.script in
    let f = first_part (sign.Use (Name (span 2 3)) action.Default false) refl refl (word_parts w.2).2 in
    let one : 1 ≤ 64 = omega arith in
    let deep : 1 + 64 ≤ 64 = defaults_deep {limit = 64} (defaults_text 65) 64 4 1 f.4.0 f.4.1 refl one f.4.5 in
    omega arith

pub defaults_beyond : IsBeyond (defaults_text 65)
defaults_beyond = record { read = more_defaults_read; none = more_defaults_none }

pub complements_within : IsWithin (complements_text 63)
unfolding computes limits.copies has_operand complements is_complement is_constant
complements_within =
    let below : 1 + 63 ≤ 64 = omega arith in
    let room : 0 < 64 = omega arith in
    let few : 1 ≤ 65535 = omega arith in
    let inner = complements_read {limit = 64} (complements_text 63) (in_arithmetic (in_word 0)) 63 3 67 1 refl below in
    let operand : ReadsLevel 64 (complements_text 63) (in_arithmetic (in_word 0)) 10 (at_word 3 1 1) (at_word 67 1 1) inner.0 = inner.1 in
    let expression : ReadsExpression 64 (complements_text 63) (in_arithmetic (in_word 0)) (at_word 3 1 1) (at_word 67 1 1) inner.0 =
    r.no_assignment refl (r.one_level (loosest_level operand (λ l. refl)) refl) in
    let parts : List Part = part.Arith (span 0 69) inner.0 ∷ [] in
    let whole_word : ReadsWord 64 (complements_text 63) (in_word 0) (at_word 0 1 0) (at_word 69 1 0) (word 0 69 parts) =
    r.whole_word (r.more refl (r.arithmetic room expression refl refl) (r.stop refl)) refl refl in
    let elements : ReadsElements 64 (complements_text 63) no_bodies First (at_token 0 1 0) (at_token 69 1 0) (element.Word (word 0 69 parts) ∷ []) =
    r.word_element refl whole_word (r.no_element refl) in
    let list : ReadsAndOr 64 (complements_text 63) no_bodies (at_token 0 0 0) (at_token 69 1 0) _ = alone_reads (r.simple_command refl elements) refl refl refl in (
      lone (simple 1 0 (element.Word (word 0 69 parts) ∷ [])),
      (
        1,
        record { no_nul = refl; end = at_word 69 1 0; script = r.script {u = at_token 69 1 0} (r.sequence (r.list (r.no_break refl) refl (r.last_item list refl refl))) refl; to_end = refl; commands = refl },
        few,
      ),
    )

more_complements_read : (t : Script) × Reads (complements_text 64) t
unfolding computes limits.copies has_operand complements is_complement is_constant
more_complements_read =
    let below : 1 + 64 ≤ 65 = omega arith in
    let room : 0 < 65 = omega arith in
    let inner = complements_read {limit = 65} (complements_text 64) (in_arithmetic (in_word 0)) 64 3 68 1 refl below in
    let operand : ReadsLevel 65 (complements_text 64) (in_arithmetic (in_word 0)) 10 (at_word 3 1 1) (at_word 68 1 1) inner.0 = inner.1 in
    let expression : ReadsExpression 65 (complements_text 64) (in_arithmetic (in_word 0)) (at_word 3 1 1) (at_word 68 1 1) inner.0 =
    r.no_assignment refl (r.one_level (loosest_level operand (λ l. refl)) refl) in
    let parts : List Part = part.Arith (span 0 70) inner.0 ∷ [] in
    let whole_word : ReadsWord 65 (complements_text 64) (in_word 0) (at_word 0 1 0) (at_word 70 1 0) (word 0 70 parts) =
    r.whole_word (r.more refl (r.arithmetic room expression refl refl) (r.stop refl)) refl refl in
    let elements : ReadsElements 65 (complements_text 64) no_bodies First (at_token 0 1 0) (at_token 70 1 0) (element.Word (word 0 70 parts) ∷ []) =
    r.word_element refl whole_word (r.no_element refl) in
    let list : ReadsAndOr 65 (complements_text 64) no_bodies (at_token 0 0 0) (at_token 70 1 0) _ = alone_reads (r.simple_command refl elements) refl refl refl in (
      lone (simple 1 0 (element.Word (word 0 70 parts) ∷ [])),
      (
        65,
        1,
        record { no_nul = refl; end = at_word 70 1 0; script = r.script {u = at_token 70 1 0} (r.sequence (r.list (r.no_break refl) refl (r.last_item list refl refl))) refl; to_end = refl; commands = refl },
      ),
    )

more_complements_none : (t : Script) → ReadsWithin (complements_text 64) t → ⊥
unfolding computes limits.copies has_signs complements is_complement
more_complements_none t h =
    let w = opening_word refl h.1.script in
    let f = first_part sign.Arith refl refl (word_parts w.2).2 in
    let u = expression_tightest refl f.4.5 in
    let one : 1 ≤ 64 = omega arith in
    let deep : 1 + 64 ≤ 64 = complements_deep {limit = 64} (complements_text 64) (in_arithmetic (in_word 0)) 64 3 1 u.0 u.1 refl one u.2 in
    omega arith

pub complements_beyond : IsBeyond (complements_text 64)
complements_beyond = record { read = more_complements_read; none = more_complements_none }

-- The body of a here-document

abbrev body_depth_mark : Mark
body_depth_mark = record { strip = false; quoted = false; delimiter = codes "E"; depth = 0 }

abbrev body_depth_document : Document
body_depth_document = record { text = word 7 12 (part.Command Paren (span 7 11) (lone (utility 3 9 10)) ∷ plain 11 12 ∷ []); end = span 12 13 }

abbrev body_depth_bodies : ℕ → Document
body_depth_bodies = nth (body_depth_document ∷ [])

pub body_depth_reads : ReadsTo body_depth_text 1 4 body_depth_script
unfolding computes
body_depth_reads =
    let word1 : ReadsWord 1 body_depth_text (in_unsplit 2) (at_word 2 1 0) (at_word 3 1 0) (bare 2 3) = r.whole_word (r.more refl r.plain (r.stop refl)) refl refl in
    let operator2 : ReadsRedirect 1 body_depth_text body_depth_bodies (at_token 0 1 0) (record (at_token 3 1 0) { pending = body_depth_mark ∷ [] }) _ =
    r.here_document refl refl refl word1 refl in
    let command3 : ReadsCommand 1 body_depth_text body_depth_bodies (at_token 0 0 0) (record (at_token 3 1 0) { pending = body_depth_mark ∷ [] }) _ =
    r.simple_command refl (r.redirect_element refl operator2 (r.no_element refl)) in
    let list4 : ReadsAndOr 1 body_depth_text body_depth_bodies (at_token 0 0 0) (record (at_token 3 1 0) { pending = body_depth_mark ∷ [] }) _ =
    alone_reads command3 refl refl refl in
    let word5 : ReadsWord 1 (take 12 body_depth_text) (in_word 9) (record (at_word 9 3 1) { joins = true }) (record (at_word 10 3 1) { joins = true }) (bare 9 10) =
    r.whole_word (r.more refl r.plain (r.stop refl)) refl refl in
    let command6 : ReadsCommand 1 (take 12 body_depth_text) no_bodies (record (at_token 9 2 1) { spot = record (at_word 9 2 1) { joins = true } }) (record (at_token 10 3 1) { spot = record (at_word 10 3 1) { joins = true } }) _ =
    r.simple_command refl (r.word_element refl word5 (r.no_element refl)) in
    let list7 : ReadsAndOr 1 (take 12 body_depth_text) no_bodies (record (at_token 9 2 1) { spot = record (at_word 9 2 1) { joins = true } }) (record (at_token 10 3 1) { spot = record (at_word 10 3 1) { joins = true } }) _ =
    alone_reads command6 refl refl refl in
    let list8 : ReadsList 1 (take 12 body_depth_text) no_bodies (record (at_token 9 2 1) { spot = record (at_word 9 2 1) { joins = true } }) (record (at_token 10 3 1) { spot = record (at_word 10 3 1) { joins = true } }) _ =
    r.list (r.no_break refl) refl (r.last_item list7 refl refl) in
    let inner9 : ReadsScript 1 (take 12 body_depth_text) (record (at_word 9 2 1) { joins = true }) (record (at_word 10 3 1) { joins = true }) (lone (utility 3 9 10)) =
    r.script {u = (record (at_token 10 3 1) { spot = record (at_word 10 3 1) { joins = true } })} (r.sequence list8) refl in
    let body10 : ReadsParts 1 (take 12 body_depth_text) (in_document_of body_depth_mark) 10 (record (at_word 7 2 0) { joins = true }) (record (at_word 12 3 0) { joins = true }) (part.Command Paren (span 7 11) (lone (utility 3 9 10)) ∷ plain 11 12 ∷ []) =
    r.more refl (r.substitution (omega arith) refl inner9 refl) (r.more refl r.plain (r.stop refl)) in
    let bodies11 : ReadsDocuments 1 body_depth_text (body_depth_mark ∷ []) (at_token 7 2 1) (record (at_token 14 3 1) { bodies = body_depth_document ∷ [] }) =
    r.more_bodies refl refl refl body10 refl r.no_body in
    let line12 : ReadsBreaks 1 body_depth_text (record (at_token 6 2 1) { pending = body_depth_mark ∷ [] }) (record (at_token 14 3 1) { bodies = body_depth_document ∷ [] }) =
    r.more_breaks refl refl bodies11 (r.no_break refl) in
    let word13 : ReadsWord 1 body_depth_text (in_word 14) (at_word 14 4 1) (at_word 15 4 1) (bare 14 15) = r.whole_word (r.more refl r.plain (r.stop refl)) refl refl in
    let command14 : ReadsCommand 1 body_depth_text body_depth_bodies (record (at_token 14 3 1) { bodies = body_depth_document ∷ [] }) (record (at_token 15 4 1) { bodies = body_depth_document ∷ [] }) _ =
    r.simple_command refl (r.word_element refl word13 (r.no_element refl)) in
    let list15 : ReadsAndOr 1 body_depth_text body_depth_bodies (record (at_token 14 3 1) { bodies = body_depth_document ∷ [] }) (record (at_token 15 4 1) { bodies = body_depth_document ∷ [] }) _ =
    alone_reads command14 refl refl refl in
    let list16 : ReadsList 1 body_depth_text body_depth_bodies (record (at_token 6 2 1) { pending = body_depth_mark ∷ [] }) (record (at_token 17 4 1) { bodies = body_depth_document ∷ [] }) _ =
    r.list line12 refl (r.ended_item list15 refl (r.no_break refl) refl) in
    let compound17 : ReadsCompound 1 body_depth_text body_depth_bodies (lead.Reserved reserved.LeftBrace) (record (at_token 5 2 0) { pending = body_depth_mark ∷ [] }) (record (at_token 18 4 0) { bodies = body_depth_document ∷ [] }) _ =
    r.group (omega arith) list16 refl in
    let command18 : ReadsCommand 1 body_depth_text body_depth_bodies (record (at_token 5 1 0) { pending = body_depth_mark ∷ [] }) (record (at_close 18 4 0) { bodies = body_depth_document ∷ [] }) _ =
    r.compound_command refl compound17 (r.no_redirect refl) in
    let list19 : ReadsAndOr 1 body_depth_text body_depth_bodies (record (at_token 5 1 0) { pending = body_depth_mark ∷ [] }) (record (at_close 18 4 0) { bodies = body_depth_document ∷ [] }) _ =
    alone_reads command18 refl refl refl in
    let list20 : ReadsList 1 body_depth_text body_depth_bodies (at_token 0 0 0) (record (at_close 18 4 0) { bodies = body_depth_document ∷ [] }) _ =
    r.list (r.no_break refl) refl (r.more_items list4 refl (r.no_break refl) refl (r.last_item list19 refl refl)) in
    read_to body_depth_text 1 (record (at_close 18 4 0) { bodies = body_depth_document ∷ [] }) body_depth_script refl (r.sequence list20) refl refl
