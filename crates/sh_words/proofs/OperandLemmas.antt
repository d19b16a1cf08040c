-- What an expression begins with, and the steps of a builder there.
use Rattle.std.proofs.Common.{◌≡◌, ℕ, suc, ◌+◌, ◌-◌, ◌*◌, ◌<◌, ◌≤◌, inl, inr, true, false, ◌&&◌, List, length, Option, Some, None, Result, Ok, Err, refl, sym, ap, ◌∙◌, subst}
use Rattle.std.proofs.Common.{arith}
use Rattle.std.proofs.lemmas.Bool.{true≢false}
use Rattle.sh_tree.specs.declared.refusal.Refusal.{Refusal}
use Rattle.sh_tree.specs.declared.refusal.Refusal.TheVariants.{TooLong, NulByte, Syntax, LeftOut, TooDeep, TooMany, Memory, Profile, CertSyntax, CertShape}
use Rattle.sh_tree.specs.declared.tree.Binary.{Binary}
use Rattle.sh_tree.specs.declared.tree.Unary.{Unary}
use Rattle.sh_tree.specs.declared.tree.Expr.{Expr}
use Rattle.sh_tree.specs.declared.tree.Expr.TheVariants as expr
use Rattle.sh_tree.specs.declared.tree.Part.{Part}
use Rattle.sh_tree.specs.declared.tree.Span.{Span}
use Rattle.sh_tree.specs.declared.token.word.Context.{Context}
use Rattle.sh_tree.specs.declared.token.word.Sign.{Sign}
use Rattle.sh_tree.specs.declared.token.word.Token.{Token}
use Rattle.sh_tree.specs.declared.token.arithmetic.Figure.{Figure}
use Rattle.sh_tree.specs.declared.token.arithmetic.Figure.TheVariants as figure
use Rattle.sh_tree.specs.declared.token.arithmetic.Lexeme.{Lexeme}
use Rattle.sh_tree.specs.standard.language.Arithmetic.{lexeme, unary_of, assignment_of, unary_level}
use Rattle.sh_tree.specs.standard.language.Reading as r
use Rattle.sh_tree.specs.standard.language.Reading.{ReadsPart, ReadsExpression, ReadsConditional, ReadsLevel, ReadsOperands, ReadsUnary}
use Rattle.sh_tree.specs.standard.language.Reading.{sign_at, after, prior_of, figure_at, figure_span, over, is_some, is_expansion, is_figure_name}
use Rattle.sh_tree.specs.standard.language.States.{Spot, to, deeper, behind}
use Rattle.sh_tree.specs.standard.language.Trees.{chain_of}
use Rattle.sh_tree.specs.standard.language.Words.{token}
use Rattle.sh_scan.specs.Moves.{reads_figure}
use Rattle.sh_tree.proofs.Inversions.{apart, some_one}
use Rattle.sh_words.specs.declared.frames.Holder.{Holder}
use Rattle.sh_words.specs.declared.frames.Holder.TheVariants as holder
use Rattle.sh_words.specs.declared.frames.Operation.{Operation}
use Rattle.sh_words.specs.declared.frames.Operation.TheVariants as operation
use Rattle.sh_words.specs.declared.frames.Focus.{Focus}
use Rattle.sh_words.specs.declared.frames.Focus.TheVariants as focus
use Rattle.sh_words.specs.declared.builder.WordBuilder.{WordBuilder}
use Rattle.sh_words.specs.declared.builder.Next.{Next}
use Rattle.sh_words.specs.Clauses.{Keeps, Never, TooDeepFor, Steps}
use Rattle.sh_words.specs.Lexemes.{IsLexeme, assigned, operand_of, is_open, is_dollar, span_of}
use Rattle.sh_words.specs.Rest.{Around, spot, placed, here, Read, one, IsOperand, Holds, Operates, Then, Leftover, Left, LeftPart}
use Rattle.sh_words.specs.Sound.{StepWorks, work}
use Rattle.sh_words.specs.States.{context_in, focused, operating, had}
use Rattle.sh_words.specs.Steps.{Enters}
use Rattle.sh_words.proofs.Exchange.{Alike}
use Rattle.sh_words.proofs.BadLemmas.{lexeme_start_inside}

-- Expressions

-- whether it is an assignment, by its operator
assigns_by : (f g : Figure) → is_figure_name f && is_some (assignment_of g) ≡ is_some (assigned f g)
unfolding assigned is_some
assigns_by figure.Name g = refl
assigns_by _ g = refl

assigned_by : (f g : Figure) (o : Option Binary) → assigned f g ≡ Some o → (f ≡ figure.Name) × (assignment_of g ≡ Some o)
unfolding assigned is_some
assigned_by figure.Name g o is = (refl, is)
assigned_by _ g o is = absurd (apart is_some (sym is) refl refl)

no_assignment_is : {limit : ℕ} {b : List ℕ} {x : Context} {s u : Spot} {e : Expr} → assigned (figure_at b s) (figure_at b (over b s)) ≡ None
    → ReadsExpression limit b x s u e → ReadsConditional limit b x s u e
unfolding assigned is_some
no_assignment_is {b = b} {s = s} none (r.assignment name a l h) =
    absurd (apart is_some (sym a ∙ ap (λ f. assigned f (figure_at b (over b s))) (sym name) ∙ none) refl refl)
no_assignment_is none (r.no_assignment other h) = h

assignment_is : {limit : ℕ} {b : List ℕ} {x : Context} {s u : Spot} {e : Expr} (o : Option Binary) → assigned (figure_at b s) (figure_at b (over b s)) ≡ Some o
    → ReadsExpression limit b x s u e
    → (v : Spot) × (y : Expr) × (u ≡ behind v.at v s) × (e ≡ expr.Assign (figure_span b s) o y) × (s.depth < limit)
    × ReadsExpression limit b x (deeper (over b (over b s)).at s) v y
unfolding is_some
assignment_is {b = b} {s = s} o is (r.assignment {u = v} {e = y} name a l h) =
    (v, y, refl, ap (λ k. expr.Assign (figure_span b s) k y) (some_one (sym a ∙ (assigned_by (figure_at b s) (figure_at b (over b s)) o is).1)), l, h)
assignment_is {b = b} {s = s} o is (r.no_assignment other h) =
    absurd (true≢false (sym (assigns_by (figure_at b s) (figure_at b (over b s)) ∙ ap is_some is) ∙ other))

-- Levels

level_is : {limit : ℕ} {b : List ℕ} {x : Context} {l : ℕ} {s u : Spot} {e : Expr} → l < unary_level → ReadsLevel limit b x l s u e
    → (v : Spot) × (y : Expr) × (es : List (Binary × Expr)) × (e ≡ chain_of y es) × ReadsLevel limit b x (l + 1) s v y × ReadsOperands limit b x l v u es
level_is lower (r.chain {u = v} {e = y} {es = es} l h others) = (v, y, es, refl, h, others)
level_is lower (r.operand same is h) = absurd (omega arith)

unary_at : {limit : ℕ} {b : List ℕ} {x : Context} {l : ℕ} {s u : Spot} {e : Expr} → l ≡ unary_level → ReadsLevel limit b x l s u e → ReadsUnary limit b x (figure_at b s) s u e
unary_at same (r.chain lower h others) = absurd (omega arith)
unary_at {limit = limit} {b = b} {x = x} {s = s} {u = u} {e = e} same (r.operand l is h) = subst (λ k. ReadsUnary limit b x k s u e) (sym is) h

-- what surrounds a place stays as an expression is read
part_stays : {limit : ℕ} {b : List ℕ} {x : Context} {g : Sign} {s u : Spot} {e : ℕ} {p : Part} → ReadsPart limit b x g s e u p → u ≡ behind u.at u s
part_stays r.plain = refl
part_stays r.escaped = refl
part_stays r.joined = refl
part_stays r.single_quoted = refl
part_stays r.tilde = refl
part_stays (r.double_quoted h) = refl
part_stays r.value = refl
part_stays r.length_value = refl
part_stays (r.use_word l h) = refl
part_stays (r.removal l h) = refl
part_stays (r.arithmetic l h c d) = refl
part_stays (r.substitution l k h c) = refl

unary_stays : {limit : ℕ} {b : List ℕ} {x : Context} {g : Figure} {s u : Spot} {e : Expr} → ReadsUnary limit b x g s u e → u ≡ behind u.at u s
unary_stays r.constant = refl
unary_stays r.variable = refl
unary_stays (r.signed o l h) = refl
unary_stays (r.parenthesis l h c) = refl
unary_stays (r.expansion i e h) = part_stays h

mutual
  level_stays : {limit : ℕ} {b : List ℕ} {x : Context} {l : ℕ} {s u : Spot} {e : Expr} → ReadsLevel limit b x l s u e → u ≡ behind u.at u s
  level_stays {u = u} (r.chain lower h others) = operands_stay others ∙ ap (λ v. behind u.at u v) (level_stays h)
  level_stays (r.operand l is h) = unary_stays h

  operands_stay : {limit : ℕ} {b : List ℕ} {x : Context} {l : ℕ} {s u : Spot} {es : List (Binary × Expr)} → ReadsOperands limit b x l s u es → u ≡ behind u.at u s
  operands_stay (r.no_operand is) = refl
  operands_stay {u = u} (r.more_operands is h others) = operands_stay others ∙ ap (λ v. behind u.at u v) (level_stays h)

-- Operands

signed_is : {limit : ℕ} {b : List ℕ} {x : Context} {g : Figure} {s u : Spot} {e : Expr} (o : Unary) → unary_of g ≡ Some o → ReadsUnary limit b x g s u e
    → (v : Spot) × (y : Expr) × (u ≡ behind v.at v s) × (e ≡ expr.Unary o y) × (s.depth < limit) × ReadsLevel limit b x unary_level (deeper (over b s).at s) v y
unfolding unary_of is_some
signed_is o is r.constant = absurd (apart is_some (sym is) refl refl)
signed_is o is r.variable = absurd (apart is_some (sym is) refl refl)
signed_is o is (r.signed {u = v} {e = y} sign l h) = (v, y, refl, ap (λ k. expr.Unary k y) (some_one (sym sign ∙ is)), l, h)
signed_is o is (r.parenthesis l h c) = absurd (apart is_some (sym is) refl refl)
signed_is o is (r.expansion i k h) = absurd (apart is_some (sym is) refl refl)

whole_is : {limit : ℕ} {b : List ℕ} {x : Context} {g : Figure} {s u : Spot} {e y : Expr} → unary_of g ≡ None → operand_of g (figure_span b s) ≡ Some y
    → ReadsUnary limit b x g s u e → (u ≡ over b s) × (e ≡ y)
unfolding operand_of is_some
whole_is none is r.constant = (refl, some_one is)
whole_is none is r.variable = (refl, some_one is)
whole_is none is (r.signed sign l h) = absurd (apart is_some (sym sign ∙ none) refl refl)
whole_is none is (r.parenthesis l h c) = absurd (apart is_some (sym is) refl refl)
whole_is none is (r.expansion i k h) = absurd (apart is_some (sym is) refl refl)

whole_reads : {limit : ℕ} {b : List ℕ} {x : Context} {s : Spot} {y : Expr} (g : Figure) → operand_of g (figure_span b s) ≡ Some y → ReadsUnary limit b x g s (over b s) y
unfolding operand_of is_some
whole_reads {limit = limit} {b = b} {x = x} {s = s} figure.Constant is = subst (λ k. ReadsUnary limit b x figure.Constant s (over b s) k) (some_one is) r.constant
whole_reads {limit = limit} {b = b} {x = x} {s = s} figure.Name is = subst (λ k. ReadsUnary limit b x figure.Name s (over b s) k) (some_one is) r.variable
whole_reads _ is = absurd (apart is_some (sym is) refl refl)

parenthesis_is : {limit : ℕ} {b : List ℕ} {x : Context} {g : Figure} {s u : Spot} {e : Expr} → g ≡ figure.Open → ReadsUnary limit b x g s u e
    → (v : Spot) × (y : Expr) × (u ≡ behind (over b v).at v s) × (e ≡ expr.Parenthesis y) × (s.depth < limit) × ReadsExpression limit b x (deeper (over b s).at s) v y
    × (figure_at b v ≡ figure.Close)
unfolding unary_of is_some
parenthesis_is is r.constant = cc
parenthesis_is is r.variable = cc
parenthesis_is is (r.signed sign l h) = absurd (apart is_some (sym sign ∙ ap unary_of is) refl refl)
parenthesis_is is (r.parenthesis {u = v} {e = y} l h c) = (v, y, refl, refl, l, h, c)
parenthesis_is is (r.expansion i k h) = cc

-- where an expansion that is an operand begins
abbrev operand_start : List ℕ → Spot → Spot
operand_start b s = to (lexeme b s.at).start s

expansion_is : {limit : ℕ} {b : List ℕ} {x : Context} {g : Figure} {s u : Spot} {e : Expr} → g ≡ figure.Dollar → ReadsUnary limit b x g s u e
    → (p : Part) × (e ≡ expr.Expansion p) × (is_expansion (sign_at b x 0 (operand_start b s)) ≡ true)
    × ReadsPart limit b x (sign_at b x 0 (operand_start b s)) (operand_start b s) (after b x 0 (operand_start b s)) u p
unfolding unary_of is_some
expansion_is is r.constant = cc
expansion_is is r.variable = cc
expansion_is is (r.signed sign l h) = absurd (apart is_some (sym sign ∙ ap unary_of is) refl refl)
expansion_is is (r.parenthesis l h c) = cc
expansion_is {limit = limit} {b = b} {x = x} {s = s} {u = u} is (r.expansion {p = p} i k h) =
    (p, refl, ap is_expansion i ∙ k, subst (λ f. ReadsPart limit b x f (operand_start b s) (after b x 0 (operand_start b s)) u p) (sym i) h)

no_unary : {limit : ℕ} {b : List ℕ} {x : Context} {g : Figure} {s u : Spot} {e : Expr} (k : Span) → unary_of g ≡ None → operand_of g k ≡ None → is_open g ≡ false
    → is_dollar g ≡ false → ReadsUnary limit b x g s u e → ⊥
unfolding operand_of is_some
no_unary k none whole opens dollar r.constant = apart is_some whole refl refl
no_unary k none whole opens dollar r.variable = apart is_some whole refl refl
no_unary k none whole opens dollar (r.signed sign l h) = apart is_some (sym sign ∙ none) refl refl
no_unary k none whole opens dollar (r.parenthesis l h c) = true≢false opens
no_unary k none whole opens dollar (r.expansion i q h) = true≢false dollar

open_figure : (g : Figure) → is_open g ≡ true → g ≡ figure.Open
open_figure figure.Open is = refl
open_figure _ is = absurd (true≢false (sym is))

-- Choices

-- the place after a choice
choice_place : (g : Around) (s u w : Spot) → s ≡ spot g s.depth s.at → u ≡ behind u.at u s → behind w.at w u ≡ placed g u.depth w.at w
choice_place g s u w is stays =
    ap (λ v. behind w.at w v) (stays ∙ ap (λ v. behind u.at u v) is) ∙ sym (ap (λ v. placed g v.depth w.at w) stays)

condition_forth : {limit : ℕ} {b : List ℕ} {x : Context} {s u : Spot} {e : Expr} (g : Around) (K : Read → Spot → Type 0) → s ≡ spot g s.depth s.at
    → ReadsConditional limit b x s u e → K (one e) u → (v : Spot) × (y : Expr) × ReadsLevel limit b x 0 s v y × Operates b limit g x operation.Condition y v K
condition_forth {u = u} {e = e} g K is (r.one_level h q) k = (u, e, h, inl (q, k))
condition_forth {s = s} g K is (r.choice {u = u} {v = v} {w = w} {c = c} {y = y} {n = n} h q l first colon second) k =
    (u, c, h, inr (q, l, v, y, first, colon, w, n, second, subst (λ t. K (one (expr.Choice c y n)) t) (choice_place g s u w is (level_stays h)) k))

condition_back : {limit : ℕ} {b : List ℕ} {x : Context} {s v : Spot} {y : Expr} (g : Around) (K : Read → Spot → Type 0) → s ≡ spot g s.depth s.at
    → ReadsLevel limit b x 0 s v y → Operates b limit g x operation.Condition y v K → (u : Spot) × (e : Expr) × ReadsConditional limit b x s u e × K (one e) u
condition_back {v = v} {y = y} g K is h (inl k) = (v, y, r.one_level h k.0, k.1)
condition_back {s = s} {v = v} {y = y} g K is h (inr k) =
    let e : Expr = expr.Choice y k.3 k.7 in
    (behind k.6.at k.6 v, e, r.choice h k.0 k.1 k.4 k.5 k.8, subst (λ t. K (one e) t) (sym (choice_place g s v k.6 is (level_stays h))) k.9)

-- Steps

-- what is entered a level deeper leaves the same words, if the limit lets it
entered : (b : List ℕ) (old : Leftover) (w new : WordBuilder) (f : Operation) (x : Focus) (end place : ℕ) (res : Result (Option Next) Refusal) → Enters w f x end place new res
    → place ≤ length b → (w.depth < 64 → Keeps b old (operating w f (w.depth + 1) x end)) → (64 ≤ w.depth → TooDeepFor old) → Steps b old new res
entered b old w new f x end place (Ok None) is inside keeps deep = subst (λ v. Keeps b old v) (sym is.1) (keeps is.0)
entered b old w new f x end place (Ok (Some n)) is inside keeps deep = absurd is
entered b old w new f x end place (Err (TooDeep at)) is inside keeps deep = (subst (λ i. i ≤ length b) (sym is.1) inside, deep is.0)
entered b old w new f x end place (Err Memory) is inside keeps deep = tt
entered b old w new f x end place (Err (Syntax k at)) is inside keeps deep = absurd is
entered b old w new f x end place (Err (LeftOut k at)) is inside keeps deep = absurd is
entered b old w new f x end place (Err TooLong) is inside keeps deep = is
entered b old w new f x end place (Err (NulByte at)) is inside keeps deep = is
entered b old w new f x end place (Err TooMany) is inside keeps deep = is
entered b old w new f x end place (Err (Profile k at)) is inside keeps deep = is
entered b old w new f x end place (Err (CertSyntax n)) is inside keeps deep = is
entered b old w new f x end place (Err CertShape) is inside keeps deep = is

entered_works : (b : List ℕ) (old w new : WordBuilder) (f : Operation) (x : Focus) (end place : ℕ) (res : Result (Option Next) Refusal) → Enters w f x end place new res
    → work b (operating w f (w.depth + 1) x end) < work b old → StepWorks b old new res
entered_works b old w new f x end place (Ok None) is less = subst (λ v. work b v < work b old) (sym is.1) less
entered_works b old w new f x end place (Ok (Some n)) is less = tt
entered_works b old w new f x end place (Err e) is less = tt

-- A turn that enters has less left to do

less_work : (n i j m k : ℕ) → i < j → j ≤ n → 32 * (n - j) + suc m + k < 32 * (n - i) + m + k
less_work n i j m k less inside = omega arith

signed_moves : (g : Figure) (o : Unary) → unary_of g ≡ Some o → reads_figure g ≡ true
unfolding unary_of is_some
signed_moves figure.End o is = absurd (apart is_some (sym is) refl refl)
signed_moves (figure.LeftOut f) o is = absurd (apart is_some (sym is) refl refl)
signed_moves figure.FinalBackslash o is = absurd (apart is_some (sym is) refl refl)
signed_moves figure.Bad o is = absurd (apart is_some (sym is) refl refl)
signed_moves _ o is = refl

pub signed_works : (b : List ℕ) (w new : WordBuilder) (l : Lexeme) (o : Unary) (place : ℕ) (res : Result (Option Next) Refusal) → IsLexeme b w.at l → unary_of l.figure ≡ Some o
    → Enters w (operation.Unary w.depth o) (focus.Level unary_level) l.end place new res → StepWorks b (focused w (focus.Level unary_level)) new res
signed_works b w new l o place res found is enters =
    let after : w.at ≤ l.start = found.1 in
    let moves : l.start < l.end = found.5 (signed_moves l.figure o is) in
    let less : w.at < l.end = omega arith in
    entered_works b (focused w (focus.Level unary_level)) w new (operation.Unary w.depth o) (focus.Level unary_level) l.end place res enters
    (less_work (length b) w.at l.end (length w.frames) 4 less found.3)

pub assignment_works : (b : List ℕ) (w new : WordBuilder) (name : Span) (first second : Lexeme) (o : Option Binary) (place : ℕ) (res : Result (Option Next) Refusal)
    → IsLexeme b w.at first → IsLexeme b first.end second → assigned first.figure second.figure ≡ Some o
    → Enters w (operation.Assign w.depth name o) focus.Expression second.end place new res → StepWorks b (focused w focus.Expression) new res
assignment_works b w new name first second o place res found next is enters =
    let named : first.figure ≡ figure.Name = (assigned_by first.figure second.figure o is).0 in
    let after : w.at ≤ first.start = found.1 in
    let moves : first.start < first.end = found.5 (ap reads_figure named) in
    let after_name : first.end ≤ second.start = next.1 in
    let forward : second.start ≤ second.end = next.2 in
    let less : w.at < second.end = omega arith in
    entered_works b (focused w focus.Expression) w new (operation.Assign w.depth name o) focus.Expression second.end place res enters
    (less_work (length b) w.at second.end (length w.frames) 28 less next.3)

-- what is wanted of the expression that was read, said in another way
moved : (K : Read → Spot → Type 0) {e y : Expr} {u v : Spot} → u ≡ v → e ≡ y → K (one e) u → K (one y) v
moved K {e = e} {v = v} place same k = subst (λ y. K (one y) v) same (subst (λ t. K (one e) t) place k)

held_one : (b : List ℕ) (limit : ℕ) (g : Around) (h : Holder) (next : ℕ) (p : Part) (u : Spot) (K : Read → Spot → Type 0) → IsOperand h → K (one (expr.Expansion p)) u
    → Holds b limit g h next p u K
held_one b limit g (holder.Operand x start) next p u K operand k = k
held_one b limit g (holder.Parts x prior found) next p u K operand k = absurd operand

one_held : (b : List ℕ) (limit : ℕ) (g : Around) (h : Holder) (next : ℕ) (p : Part) (u : Spot) (K : Read → Spot → Type 0) → IsOperand h → Holds b limit g h next p u K
    → K (one (expr.Expansion p)) u
one_held b limit g (holder.Operand x start) next p u K operand k = k
one_held b limit g (holder.Parts x prior found) next p u K operand k = absurd operand

module _ (b : List ℕ) (w : WordBuilder) where
  -- what is wanted of the expression that is read
  abbrev Wanted : ℕ → Around → Spot → List Part → Read → Spot → Type 0
  Wanted limit g u ps z v = Then b limit g (context_in w.holder) w.frames z v u ps

  -- the operator of the assignment that begins here, if one does
  abbrev assigned_here : Option (Option Binary)
  assigned_here = assigned (lexeme b w.at).figure (lexeme b (lexeme b w.at).end).figure

  assigned_is : (first second : Lexeme) (o : Option (Option Binary)) → IsLexeme b w.at first → IsLexeme b first.end second → assigned first.figure second.figure ≡ o
      → assigned_here ≡ o
  assigned_is first second o here next is =
      subst (λ l. assigned l.figure (lexeme b l.end).figure ≡ o) here.0 (subst (λ l. assigned first.figure l.figure ≡ o) next.0 is)

  pub unassigned_keeps : (first second : Lexeme) → IsLexeme b w.at first → IsLexeme b first.end second → assigned first.figure second.figure ≡ None
      → Keeps b (Left b (focused w focus.Expression)) (focused w focus.Conditional)
  unfolding Left is_some
  unassigned_keeps first second here next is =
      let none : assigned_here ≡ None = assigned_is first second None here next is in
      record {
        forth = λ limit g u ps l. (l.0, l.1, l.2, no_assignment_is none l.3, l.4);
        back = λ g u ps l. (l.0, l.1, l.2, r.no_assignment (assigns_by (lexeme b w.at).figure (lexeme b (lexeme b w.at).end).figure ∙ ap is_some none) l.3, l.4);
      }

  assignment_keeps : (o : Option Binary) → assigned_here ≡ Some o → w.depth < 64
      → Keeps b (Left b (focused w focus.Expression))
      (operating w (operation.Assign w.depth (span_of (lexeme b w.at)) o) (w.depth + 1) focus.Expression (lexeme b (lexeme b w.at).end).end)
  unfolding Left
  assignment_keeps o is below =
      let a = assigned_by (lexeme b w.at).figure (lexeme b (lexeme b w.at).end).figure o is in
      record {
        forth = λ limit g u ps l. let q = assignment_is o is l.3 in (l.0, q.0, q.1, q.5, moved (Wanted limit g u ps) q.2 q.3 l.4);
        back = λ g u ps l. (l.0, behind l.1.at l.1 (here g w), expr.Assign (span_of (lexeme b w.at)) o l.2, r.assignment a.0 a.1 below l.3, l.4);
      }

  assignment_deep : (o : Option Binary) → assigned_here ≡ Some o → 64 ≤ w.depth → TooDeepFor (Left b (focused w focus.Expression))
  unfolding Left
  assignment_deep o is above g u ps l = let q = assignment_is o is l.3 in let below : w.depth < 64 = q.4 in absurd (omega arith)

  pub assignment_enters : (new : WordBuilder) (name : Span) (first second value : Lexeme) (o : Option Binary) (res : Result (Option Next) Refusal) → IsLexeme b w.at first
      → IsLexeme b first.end second → IsLexeme b second.end value → assigned first.figure second.figure ≡ Some o → name ≡ span_of first
      → Enters w (operation.Assign w.depth name o) focus.Expression second.end value.start new res → Steps b (Left b (focused w focus.Expression)) new res
  assignment_enters new name first second value o res here next behind_next is named enters =
      let some : assigned_here ≡ Some o = assigned_is first second (Some o) here next is in
      let name_is : name ≡ span_of (lexeme b w.at) = named ∙ ap span_of here.0 in
      let end_is : second.end ≡ (lexeme b (lexeme b w.at).end).end = ap (λ l. l.end) next.0 ∙ ap (λ l. (lexeme b l.end).end) here.0 in
      entered b (Left b (focused w focus.Expression)) w new (operation.Assign w.depth name o) focus.Expression second.end value.start res enters
      (lexeme_start_inside b second.end value behind_next) (λ below. rw (name_is, end_is) (assignment_keeps o some below)) (assignment_deep o some)

  pub conditional_keeps : Keeps b (Left b (focused w focus.Conditional)) (operating w operation.Condition w.depth (focus.Level 0) w.at)
  unfolding Left
  conditional_keeps = record {
    forth = λ limit g u ps l. let q = condition_forth g (Wanted limit g u ps) refl l.3 l.4 in (l.0, q.0, q.1, q.2, q.3);
    back = λ g u ps l. let q = condition_back g (Wanted 64 g u ps) refl l.3 l.4 in (l.0, q.0, q.1, q.2, q.3);
  }

  pub level_keeps : (l : ℕ) → l < unary_level → Keeps b (Left b (focused w (focus.Level l))) (operating w (operation.First l) w.depth (focus.Level (l + 1)) w.at)
  unfolding Left
  level_keeps n lower = record {
    forth = λ limit g u ps l. let q = level_is lower l.3 in (l.0, q.0, q.1, q.4, (l.1, q.2, q.5, moved (Wanted limit g u ps) refl q.3 l.4));
    back = λ g u ps l. (l.0, l.4.0, chain_of l.2 l.4.1, r.chain {e = l.2} {es = l.4.1} lower l.3 l.4.2, l.4.3);
  }

  -- what is left where an operand begins
  abbrev pub Operand : Leftover
  Operand = Left b (focused w (focus.Level unary_level))

  signed_keeps : (o : Unary) → unary_of (lexeme b w.at).figure ≡ Some o → w.depth < 64
      → Keeps b Operand (operating w (operation.Unary w.depth o) (w.depth + 1) (focus.Level unary_level) (lexeme b w.at).end)
  unfolding Left
  signed_keeps o is below = record {
    forth = λ limit g u ps l. let q = signed_is o is (unary_at refl l.3) in (l.0, q.0, q.1, q.5, moved (Wanted limit g u ps) q.2 q.3 l.4);
    back = λ g u ps l. (l.0, behind l.1.at l.1 (here g w), expr.Unary o l.2, r.operand refl refl (r.signed is below l.3), l.4);
  }

  signed_deep : (o : Unary) → unary_of (lexeme b w.at).figure ≡ Some o → 64 ≤ w.depth → TooDeepFor Operand
  unfolding Left
  signed_deep o is above g u ps l = let q = signed_is o is (unary_at refl l.3) in let below : w.depth < 64 = q.4 in absurd (omega arith)

  pub signed_enters : (new : WordBuilder) (l : Lexeme) (o : Unary) (res : Result (Option Next) Refusal) → IsLexeme b w.at l → unary_of l.figure ≡ Some o
      → Enters w (operation.Unary w.depth o) (focus.Level unary_level) l.end l.start new res → Steps b Operand new res
  signed_enters new l o res found is enters =
      let some : unary_of (lexeme b w.at).figure ≡ Some o = subst (λ t. unary_of t.figure ≡ Some o) found.0 is in
      entered b Operand w new (operation.Unary w.depth o) (focus.Level unary_level) l.end l.start res enters (lexeme_start_inside b w.at l found)
      (λ below. rw found.0 (signed_keeps o some below)) (signed_deep o some)

  whole_kept : (y : Expr) → unary_of (lexeme b w.at).figure ≡ None → operand_of (lexeme b w.at).figure (span_of (lexeme b w.at)) ≡ Some y
      → Keeps b Operand (had w w.depth y (lexeme b w.at).end)
  unfolding Left
  whole_kept y none is = record {
    forth = λ limit g u ps l. let q = whole_is none is (unary_at refl l.3) in (l.0, moved (Wanted limit g u ps) q.0 q.1 l.4);
    back = λ g u ps l. (l.0, over b (here g w), y, r.operand refl refl (whole_reads (lexeme b w.at).figure is), l.1);
  }

  pub whole_keeps : (new : WordBuilder) (l : Lexeme) (y : Expr) → IsLexeme b w.at l → unary_of l.figure ≡ None → operand_of l.figure (span_of l) ≡ Some y
      → new ≡ had w w.depth y l.end → Keeps b Operand new
  whole_keeps new l y found none is read =
      let unsigned : unary_of (lexeme b w.at).figure ≡ None = subst (λ t. unary_of t.figure ≡ None) found.0 none in
      let some : operand_of (lexeme b w.at).figure (span_of (lexeme b w.at)) ≡ Some y = subst (λ t. operand_of t.figure (span_of t) ≡ Some y) found.0 is in
      rw (read, found.0) (whole_kept y unsigned some)

  parenthesis_keeps : (lexeme b w.at).figure ≡ figure.Open → w.depth < 64
      → Keeps b Operand (operating w (operation.Parenthesis w.depth) (w.depth + 1) focus.Expression (lexeme b w.at).end)
  unfolding Left
  parenthesis_keeps is below = record {
    forth = λ limit g u ps l. let q = parenthesis_is is (unary_at refl l.3) in (l.0, q.0, q.1, q.5, (q.6, moved (Wanted limit g u ps) q.2 q.3 l.4));
    back = λ g u ps l. (l.0, behind (over b l.1).at l.1 (here g w), expr.Parenthesis l.2, r.operand refl is (r.parenthesis below l.3 l.4.0), l.4.1);
  }

  parenthesis_deep : (lexeme b w.at).figure ≡ figure.Open → 64 ≤ w.depth → TooDeepFor Operand
  unfolding Left
  parenthesis_deep is above g u ps l = let q = parenthesis_is is (unary_at refl l.3) in let below : w.depth < 64 = q.4 in absurd (omega arith)

  pub parenthesis_enters : (new : WordBuilder) (l : Lexeme) (res : Result (Option Next) Refusal) → IsLexeme b w.at l → is_open l.figure ≡ true
      → Enters w (operation.Parenthesis w.depth) focus.Expression l.end l.start new res → Steps b Operand new res
  parenthesis_enters new l res found is enters =
      let opens : (lexeme b w.at).figure ≡ figure.Open = ap (λ t. t.figure) (sym found.0) ∙ open_figure l.figure is in
      entered b Operand w new (operation.Parenthesis w.depth) focus.Expression l.end l.start res enters (lexeme_start_inside b w.at l found)
      (λ below. rw found.0 (parenthesis_keeps opens below)) (parenthesis_deep opens)

  pub no_operand : (l : Lexeme) → IsLexeme b w.at l → unary_of l.figure ≡ None → operand_of l.figure (span_of l) ≡ None → is_open l.figure ≡ false → is_dollar l.figure ≡ false
      → Never Operand
  unfolding Left
  no_operand l found none whole opens dollar limit g u ps left =
      no_unary (span_of l) none whole opens dollar
      (subst (λ t. ReadsUnary limit b (context_in w.holder) t.figure (here g w) left.1 left.2) (sym found.0) (unary_at refl left.3))

  -- Expansions

  -- parts take no operand
  pub no_operand_of_parts : (x : Context) (prior : ℕ) (found : List Part) → w.holder ≡ holder.Parts x prior found → Never Operand
  unfolding Left
  no_operand_of_parts x prior found is limit g u ps l = subst IsOperand is l.0

  pub expansion_alike : (t : Token) (start : ℕ) → IsOperand w.holder → (lexeme b w.at).figure ≡ figure.Dollar → start ≡ (lexeme b w.at).start
      → t ≡ token b (context_in w.holder) 0 start → is_expansion t.sign ≡ true → Alike Operand (LeftPart b w t.sign start t.end)
  unfolding Left LeftPart
  expansion_alike t start operand dollar begins is expands =
      let x = context_in w.holder in
      let same : t ≡ token b x 0 (lexeme b w.at).start = is ∙ ap (λ i. token b x 0 i) begins in
      subst (λ i. Alike Operand (LeftPart b w t.sign i t.end)) (sym begins) (record {
        forth = λ limit g u ps l.
            let q = expansion_is dollar (unary_at refl l.3) in (
              l.1,
              q.0,
              subst (λ k. ReadsPart limit b x k.sign (operand_start b (here g w)) k.end l.1 q.0) (sym same) q.3,
              held_one b limit g w.holder (prior_of b t.sign l.1.at) q.0 l.1 (Wanted limit g u ps) operand (moved (Wanted limit g u ps) refl q.1 l.4),
            );
        back = λ g u ps l.
            let q = subst (λ k. ReadsPart 64 b x k.sign (operand_start b (here g w)) k.end l.0 l.1) same l.2 in
            let some : is_expansion (sign_at b x 0 (operand_start b (here g w))) ≡ true = ap (λ k. is_expansion k.sign) (sym same) ∙ expands in (
              operand,
              l.0,
              expr.Expansion l.1,
              r.operand refl dollar (r.expansion refl some q),
              one_held b 64 g w.holder (prior_of b t.sign l.0.at) l.1 l.0 (Wanted 64 g u ps) operand l.3,
            );
      })

  pub no_expansion : (t : Token) (start : ℕ) → (lexeme b w.at).figure ≡ figure.Dollar → start ≡ (lexeme b w.at).start → t ≡ token b (context_in w.holder) 0 start
      → is_expansion t.sign ≡ false → Never Operand
  unfolding Left
  no_expansion t start dollar begins is none limit g u ps l =
      let same : t ≡ token b (context_in w.holder) 0 (lexeme b w.at).start = is ∙ ap (λ i. token b (context_in w.holder) 0 i) begins in
      true≢false (sym (expansion_is dollar (unary_at refl l.3)).2 ∙ ap (λ k. is_expansion k.sign) (sym same) ∙ none)
