-- What is left after an operand of arithmetic.
use Rattle.std.proofs.Common.{◌≡◌, ℕ, ◌+◌, ◌<◌, ◌≤◌, ◌⊎◌, inl, inr, Bool, true, false, List, [], ◌∷◌, ◌++◌, length, drop, ◌==◌, Option, Some, None, Result, Ok, Err, refl, sym, ap, ◌∙◌, subst, arith, length-drop}
use Rattle.std.proofs.lemmas.Bool.{true≢false}
use Rattle.std.proofs.lemmas.List.{append_assoc}
use Rattle.sh_tree.proofs.Inversions.{apart}
use Rattle.sh_tree.proofs.FirstLemmas.{first_some}
use Rattle.sh_tree.specs.declared.refusal.Refusal.{Refusal}
use Rattle.sh_tree.specs.declared.refusal.Refusal.TheVariants.{Syntax, LeftOut, TooDeep, Memory}
use Rattle.sh_tree.specs.declared.tree.Binary.{Binary}
use Rattle.sh_tree.specs.declared.tree.Expr.{Expr}
use Rattle.sh_tree.specs.declared.tree.Expr.TheVariants as expr
use Rattle.sh_tree.specs.declared.tree.Part.{Part}
use Rattle.sh_tree.specs.declared.tree.Part.TheVariants as part
use Rattle.sh_tree.specs.declared.token.word.Context.{Context}
use Rattle.sh_tree.specs.declared.token.arithmetic.Figure.{Figure}
use Rattle.sh_tree.specs.declared.token.arithmetic.Figure.TheVariants as figure
use Rattle.sh_tree.specs.declared.token.arithmetic.Lexeme.{Lexeme}
use Rattle.sh_tree.specs.standard.language.Arithmetic.{lexeme, binary_of, is_closed, unary_level}
use Rattle.sh_tree.specs.standard.language.Reading as r
use Rattle.sh_tree.specs.standard.language.Reading.{ReadsLevel, ReadsOperands, figure_at, over, is_question}
use Rattle.sh_tree.specs.standard.language.States.{Spot}
use Rattle.sh_tree.specs.standard.language.Trees.{span, chain_of}
use Rattle.sh_words.specs.declared.frames.Holder.{Holder}
use Rattle.sh_words.specs.declared.frames.Opening.{Opening}
use Rattle.sh_words.specs.declared.frames.Operation.{Operation}
use Rattle.sh_words.specs.declared.frames.Operation.TheVariants as operation
use Rattle.sh_words.specs.declared.frames.Frame.{Frame}
use Rattle.sh_words.specs.declared.frames.Frame.TheVariants as frame
use Rattle.sh_words.specs.declared.frames.Focus.{Focus}
use Rattle.sh_words.specs.declared.frames.Focus.TheVariants as focus
use Rattle.sh_words.specs.declared.builder.WordBuilder.{WordBuilder}
use Rattle.sh_words.specs.declared.builder.Next.{Next}
use Rattle.sh_words.specs.Clauses.{Keeps, Never, TooDeepFor, Refuses, Steps}
use Rattle.sh_words.specs.Lexemes.{IsLexeme, is_close, is_colon, follows}
use Rattle.sh_words.specs.Faults.{IsFault, bad}
use Rattle.sh_words.proofs.BadLemmas.{bad_is_fault}
use Rattle.sh_words.proofs.PartLemmas.{held_left, left_held}
use Rattle.sh_words.specs.Operations.{IsClose, ClosesArithmetic, first_by, first_read, more_by, more_read}
use Rattle.sh_words.proofs.Exchange.{steps_equal, reframed, fault_refuses}
use Rattle.sh_words.specs.Rest.{Around, spot, here, IsOperand, one, Then, Left}
use Rattle.sh_words.specs.Steps.{Enters}
use Rattle.sh_words.specs.Sound.{Began, Operated, Fits, IsSound, turns_left, StepMoves, work}
use Rattle.sh_scan.specs.Moves.{reads_figure}
use Rattle.sh_words.specs.States.{context_in, given, had, operating, framed, focused}

-- Operands

-- where there is no operator of the level, no operand is read
operands_end : {limit : ℕ} {b : List ℕ} {x : Context} {l : ℕ} {s v : Spot} {es : List (Binary × Expr)} → binary_of l (figure_at b s) ≡ None → ReadsOperands limit b x l s v es
    → (v ≡ s) × (es ≡ [])
operands_end none (r.no_operand h) = (refl, refl)
operands_end none (r.more_operands h e os) = cc

-- else one is read after it
operands_go_on : {limit : ℕ} {b : List ℕ} {x : Context} {l : ℕ} {s v : Spot} {es : List (Binary × Expr)} (o : Binary) → binary_of l (figure_at b s) ≡ Some o
    → ReadsOperands limit b x l s v es
    → (u : Spot) × (e : Expr) × (others : List (Binary × Expr)) × (es ≡ (o, e) ∷ others) × ReadsLevel limit b x (l + 1) (over b s) u e × ReadsOperands limit b x l u v others
operands_go_on o some (r.no_operand h) = cc
operands_go_on o some (r.more_operands {u = u} {o = p} {e = e} {es = others} h read os) =
    let same : p ≡ o = cc in
    (u, e, others, ap (λ q. (q, e) ∷ others) same, read, os)

-- What an operation makes of an operand

-- the operand e of the operation was read, before the token; a choice is no part of it
abbrev pub OperandRead : WordBuilder → Operation → Expr → Lexeme → WordBuilder → Type 0
OperandRead w (operation.Parenthesis depth) e l new = (is_close l.figure ≡ true) × (new ≡ had w depth (expr.Parenthesis e) l.end)
OperandRead w (operation.Unary depth o) e l new = new ≡ had w depth (expr.Unary o e) w.at
OperandRead w (operation.First level) e l new = new ≡ first_read w level e l
OperandRead w (operation.More level first rest o) e l new = new ≡ more_read w level first rest o e l
OperandRead w operation.Condition e l new = (is_question l.figure ≡ false) × (new ≡ had w w.depth e w.at)
OperandRead w (operation.Yes depth c) y l new = (is_colon l.figure ≡ true) × (new ≡ operating w (operation.No depth c y) w.depth focus.Conditional l.end)
OperandRead w (operation.No depth c y) n l new = new ≡ had w depth (expr.Choice c y n) w.at
OperandRead w (operation.Assign depth name o) e l new = new ≡ had w depth (expr.Assign name o e) w.at

is_the_close : (f : Figure) → is_close f ≡ true → f ≡ figure.Close
is_the_close figure.Close h = refl
is_the_close _ h = absurd (true≢false (sym h))

is_the_colon : (f : Figure) → is_colon f ≡ true → f ≡ figure.Colon
is_the_colon figure.Colon h = refl
is_the_colon _ h = absurd (true≢false (sym h))

is_the_question : (f : Figure) → is_question f ≡ true → f ≡ figure.Question
is_the_question figure.Question h = refl
is_the_question _ h = absurd (true≢false (sym h))

module _ (b : List ℕ) (w : WordBuilder) (e : Expr) where
  -- what is left where the expression is an operand of the operation
  abbrev Read : Operation → WordBuilder → Type 0
  Read f new = Keeps b (Left b (framed w (frame.Operation f) (focus.Have e))) new

  pub first_keeps : (level : ℕ) (o : Option Binary) → binary_of level (lexeme b w.at).figure ≡ o → Read (operation.First level) (first_by w level e (lexeme b w.at) o)
  unfolding Left
  first_keeps level None is = record {
    forth = λ limit g u ps l.
        let q = operands_end is l.1.2 in
        let k = subst (λ es. Then b limit g (context_in w.holder) w.frames (one (chain_of e es)) l.1.0 u ps) q.1 l.1.3 in
        (l.0, subst (λ v. Then b limit g (context_in w.holder) w.frames (one e) v u ps) q.0 k);
    back = λ g u ps l. (l.0, (here g w, [], r.no_operand is, l.1));
  }
  first_keeps level (Some o) is = record {
    forth = λ limit g u ps l.
        let q = operands_go_on o is l.1.2 in
        let k = subst (λ es. Then b limit g (context_in w.holder) w.frames (one (chain_of e es)) l.1.0 u ps) q.3 l.1.3 in
        (l.0, q.0, q.1, q.4, (l.1.0, q.2, q.5, k));
    back = λ g u ps l. (l.0, (l.4.0, (o, l.2) ∷ l.4.1, r.more_operands is l.3 l.4.2, l.4.3));
  }

  more_keeps : (level : ℕ) (first : Expr) (rest : List (Binary × Expr)) (p : Binary) (o : Option Binary) → binary_of level (lexeme b w.at).figure ≡ o
      → Read (operation.More level first rest p) (more_by w level first (rest ++ (p, e) ∷ []) (lexeme b w.at) o)
  unfolding Left
  more_keeps level first rest p None is = record {
    forth = λ limit g u ps l.
        let q = operands_end is l.1.2 in
        let k = subst (λ es. Then b limit g (context_in w.holder) w.frames (one (expr.Chain first (rest ++ (p, e) ∷ es))) l.1.0 u ps) q.1 l.1.3 in
        (l.0, subst (λ v. Then b limit g (context_in w.holder) w.frames (one (expr.Chain first (rest ++ (p, e) ∷ []))) v u ps) q.0 k);
    back = λ g u ps l. (l.0, (here g w, [], r.no_operand is, l.1));
  }
  more_keeps level first rest p (Some o) is = record {
    forth = λ limit g u ps l.
        let q = operands_go_on o is l.1.2 in
        let all : rest ++ (p, e) ∷ l.1.1 ≡ (rest ++ (p, e) ∷ []) ++ (o, q.1) ∷ q.2 =
        ap (λ es. rest ++ (p, e) ∷ es) q.3 ∙ sym (append_assoc rest ((p, e) ∷ []) ((o, q.1) ∷ q.2)) in
        let k = subst (λ es. Then b limit g (context_in w.holder) w.frames (one (expr.Chain first es)) l.1.0 u ps) all l.1.3 in
        (l.0, q.0, q.1, q.4, (l.1.0, q.2, q.5, k));
    back = λ g u ps l.
        let all : (rest ++ (p, e) ∷ []) ++ (o, l.2) ∷ l.4.1 ≡ rest ++ (p, e) ∷ (o, l.2) ∷ l.4.1 = append_assoc rest ((p, e) ∷ []) ((o, l.2) ∷ l.4.1) in (
          l.0,
          (
            l.4.0,
            (o, l.2) ∷ l.4.1,
            r.more_operands is l.3 l.4.2,
            subst (λ es. Then b 64 g (context_in w.holder) w.frames (one (expr.Chain first es)) l.4.0 u ps) all l.4.3,
          ),
        );
  }

  read_keeps : (f : Operation) (new : WordBuilder) → OperandRead w f e (lexeme b w.at) new → Read f new
  unfolding Left
  read_keeps (operation.Parenthesis depth) new q =
      let close = is_the_close (lexeme b w.at).figure q.0 in
      subst (λ v. Read (operation.Parenthesis depth) v) (sym q.1) (record { forth = λ limit g u ps l. (l.0, l.1.1); back = λ g u ps l. (l.0, (close, l.1)) })
  read_keeps (operation.Unary depth o) new q =
      subst (λ v. Read (operation.Unary depth o) v) (sym q) (record { forth = λ limit g u ps l. l; back = λ g u ps l. l })
  read_keeps (operation.First level) new q =
      subst (λ v. Read (operation.First level) v) (sym q) (first_keeps level (binary_of level (lexeme b w.at).figure) refl)
  read_keeps (operation.More level first rest o) new q =
      subst (λ v. Read (operation.More level first rest o) v) (sym q) (more_keeps level first rest o (binary_of level (lexeme b w.at).figure) refl)
  read_keeps operation.Condition new q =
      subst (λ v. Read operation.Condition v) (sym q.1) (record {
        forth = λ limit g u ps l. (l.0, elim l.1 [ inl k ↦ k.1 | inr k ↦ absurd (apart is_question (sym k.0) refl q.0) ]);
        back = λ g u ps l. (l.0, inl (q.0, l.1));
      })
  read_keeps (operation.Yes depth c) new q =
      let colon = is_the_colon (lexeme b w.at).figure q.0 in
      subst (λ v. Read (operation.Yes depth c) v) (sym q.1) (record {
        forth = λ limit g u ps l. (l.0, l.1.1, l.1.2, l.1.3, l.1.4);
        back = λ g u ps l. (l.0, (colon, l.1, l.2, l.3, l.4));
      })
  read_keeps (operation.No depth c y) new q =
      subst (λ v. Read (operation.No depth c y) v) (sym q) (record { forth = λ limit g u ps l. l; back = λ g u ps l. l })
  read_keeps (operation.Assign depth name o) new q =
      subst (λ v. Read (operation.Assign depth name o) v) (sym q) (record { forth = λ limit g u ps l. l; back = λ g u ps l. l })

  no_close : (depth : ℕ) → is_close (lexeme b w.at).figure ≡ false → Never (Left b (framed w (frame.Operation (operation.Parenthesis depth)) (focus.Have e)))
  unfolding Left
  no_close depth other limit g u ps l = apart is_close (sym l.1.0) refl other

  no_colon : (depth : ℕ) (c : Expr) → is_colon (lexeme b w.at).figure ≡ false → Never (Left b (framed w (frame.Operation (operation.Yes depth c)) (focus.Have e)))
  unfolding Left
  no_colon depth c other limit g u ps l = apart is_colon (sym l.1.0) refl other

  choice_keeps : is_question (lexeme b w.at).figure ≡ true → w.depth < 64
      → Read operation.Condition (operating w (operation.Yes w.depth e) (w.depth + 1) focus.Expression (lexeme b w.at).end)
  unfolding Left
  choice_keeps question below = record {
    forth = λ limit g u ps l.
        elim l.1 [ inl k ↦ absurd (true≢false (sym question ∙ k.0)) | inr k ↦ (l.0, k.2, k.3, k.4, (k.5, k.6, k.7, k.8, k.9)) ];
    back = λ g u ps l. (l.0, inr (is_the_question (lexeme b w.at).figure question, below, l.1, l.2, l.3, l.4.0, l.4.1, l.4.2, l.4.3, l.4.4));
  }

  too_deep : is_question (lexeme b w.at).figure ≡ true → 64 ≤ w.depth → TooDeepFor (Left b (framed w (frame.Operation operation.Condition) (focus.Have e)))
  unfolding Left
  too_deep question above g u ps l =
      elim l.1 [ inl k ↦ absurd (true≢false (sym question ∙ k.0)) | inr k ↦ let below : w.depth < 64 = k.1 in absurd (omega arith) ]

  choice_steps : (place : ℕ) (new : WordBuilder) (res : Result (Option Next) Refusal) → is_question (lexeme b w.at).figure ≡ true → place ≤ length b
      → Enters w (operation.Yes w.depth e) focus.Expression (lexeme b w.at).end place new res
      → Steps b (Left b (framed w (frame.Operation operation.Condition) (focus.Have e))) new res
  choice_steps place new (Ok None) question inside q = subst (λ v. Read operation.Condition v) (sym q.1) (choice_keeps question q.0)
  choice_steps place new (Err (TooDeep at)) question inside q = (omega (arith, q.1), too_deep question q.0)
  choice_steps place new (Err Memory) question inside q = tt
  choice_steps place new _ question inside q = absurd q

-- How far an operand that was read brings the builder

-- the token of a binary operator has bytes
operator_reads : (level : ℕ) (f : Figure) (o : Binary) → binary_of level f ≡ Some o → reads_figure f ≡ true
unfolding binary_of
operator_reads level (figure.Binary p) o is = refl
operator_reads level _ o is = cc

module _ (b : List ℕ) (w : WordBuilder) (e : Expr) where
  -- the builder moves, is sound, and has less to do
  abbrev pub Goes : Operation → WordBuilder → Type 0
  Goes f new = StepMoves b w new (Ok None) × IsSound b new × (work b new < work b (framed w (frame.Operation f) (focus.Have e)))

  module _ (f : Operation) (sound : IsSound b (framed w (frame.Operation f) (focus.Have e))) where
    had_goes : (depth end : ℕ) (d : Expr) → w.base ≤ depth → depth ≤ 64 → w.at ≤ end → end ≤ length b → Goes f (had w depth d end)
    had_goes depth end d base limit after inside = ((after, inside, (refl, refl, refl, refl, refl)), (base, limit, tt, sound.3, sound.4.1), omega arith)

    module _ (l : Lexeme) (is : IsLexeme b w.at l) where
      same_goes : (depth : ℕ) (d : Expr) → w.base ≤ depth → depth ≤ 64 → Goes f (had w depth d w.at)
      same_goes depth d base limit =
          let after : w.at ≤ l.start = is.1 in
          let forward : l.start ≤ l.end = is.2 in
          let inside : l.end ≤ length b = is.3 in
          had_goes depth w.at d base limit (omega arith) (omega arith)

      behind_goes : (o : Operation) (x : Focus) → Operated w.base o → Fits b x (frame.Operation o ∷ w.frames) → turns_left b x < 32 → reads_figure l.figure ≡ true
          → Goes f (operating w o w.depth x l.end)
      behind_goes o x operated fits turns reads =
          let after : w.at ≤ l.start = is.1 in
          let moves : l.start < l.end = is.5 reads in
          let inside : l.end ≤ length b = is.3 in
          ((omega arith, inside, (refl, refl, refl, refl, refl)), (sound.0, sound.1, fits, sound.3, (operated, sound.4.1)), omega arith)

      first_goes : (level : ℕ) (o : Option Binary) → level < unary_level → binary_of level l.figure ≡ o → Goes f (first_by w level e l o)
      first_goes level None lt which = same_goes w.depth e sound.0 sound.1
      first_goes level (Some o) lt which =
          behind_goes (operation.More level e [] o) (focus.Level (level + 1)) lt (omega arith) (omega arith) (operator_reads level l.figure o which)

      more_goes : (level : ℕ) (first : Expr) (all : List (Binary × Expr)) (o : Option Binary) → level < unary_level → binary_of level l.figure ≡ o
          → Goes f (more_by w level first all l o)
      more_goes level first all None lt which = same_goes w.depth (expr.Chain first all) sound.0 sound.1
      more_goes level first all (Some o) lt which =
          behind_goes (operation.More level first all o) (focus.Level (level + 1)) lt (omega arith) (omega arith) (operator_reads level l.figure o which)

  pub operand_goes : (f : Operation) (l : Lexeme) (new : WordBuilder) → IsLexeme b w.at l → IsSound b (framed w (frame.Operation f) (focus.Have e))
      → OperandRead w f e l new → Goes f new
  operand_goes (operation.Parenthesis depth) l new is sound q =
      let after : w.at ≤ l.start = is.1 in
      let forward : l.start ≤ l.end = is.2 in
      subst (λ v. Goes (operation.Parenthesis depth) v) (sym q.1)
      (had_goes (operation.Parenthesis depth) sound depth l.end (expr.Parenthesis e) sound.4.0.0 sound.4.0.1 (omega arith) is.3)
  operand_goes (operation.Unary depth o) l new is sound q =
      subst (λ v. Goes (operation.Unary depth o) v) (sym q) (same_goes (operation.Unary depth o) sound l is depth (expr.Unary o e) sound.4.0.0 sound.4.0.1)
  operand_goes (operation.First level) l new is sound q =
      subst (λ v. Goes (operation.First level) v) (sym q) (first_goes (operation.First level) sound l is level (binary_of level l.figure) sound.4.0 refl)
  operand_goes (operation.More level first rest o) l new is sound q =
      subst (λ v. Goes (operation.More level first rest o) v) (sym q)
      (more_goes (operation.More level first rest o) sound l is level first (rest ++ (o, e) ∷ []) (binary_of level l.figure) sound.4.0 refl)
  operand_goes operation.Condition l new is sound q =
      subst (λ v. Goes operation.Condition v) (sym q.1) (same_goes operation.Condition sound l is w.depth e sound.0 sound.1)
  operand_goes (operation.Yes depth c) l new is sound q =
      subst (λ v. Goes (operation.Yes depth c) v) (sym q.1)
      (behind_goes (operation.Yes depth c) sound l is (operation.No depth c e) focus.Conditional sound.4.0 tt (omega arith) (ap reads_figure (is_the_colon l.figure q.0)))
  operand_goes (operation.No depth c y) l new is sound q =
      subst (λ v. Goes (operation.No depth c y) v) (sym q) (same_goes (operation.No depth c y) sound l is depth (expr.Choice c y e) sound.4.0.0 sound.4.0.1)
  operand_goes (operation.Assign depth name o) l new is sound q =
      subst (λ v. Goes (operation.Assign depth name o) v) (sym q) (same_goes (operation.Assign depth name o) sound l is depth (expr.Assign name o e) sound.4.0.0 sound.4.0.1)

-- Tokens that cannot follow an expression

-- no operator of a level is such a token
unfollowed_by : (level : ℕ) (f : Figure) → follows f ≡ false → binary_of level f ≡ None
unfolding binary_of
unfollowed_by level (figure.Binary o) none = absurd (true≢false none)
unfollowed_by level _ none = refl

module _ (b : List ℕ) (limit : ℕ) (g : Around) where
  -- nothing is left before a token that cannot follow the expression
  unfollowed : (x : Context) (fs : List Frame) (e : Expr) (j u : Spot) (ps : List Part) → follows (figure_at b j) ≡ false → Then b limit g x fs (one e) j u ps → ⊥
  unfollowed x [] e j u ps none l = l
  unfollowed x (frame.Opened h depth start inside o ∷ fs) e j u ps none l = apart follows (sym l.1) refl none
  unfollowed x (frame.Operation (operation.Parenthesis depth) ∷ fs) e j u ps none l = apart follows (sym l.0) refl none
  unfollowed x (frame.Operation (operation.Unary depth o) ∷ fs) e j u ps none l = unfollowed x fs (expr.Unary o e) _ u ps none l
  unfollowed x (frame.Operation (operation.First level) ∷ fs) e j u ps none l =
      let q = operands_end (unfollowed_by level (figure_at b j) none) l.2 in
      unfollowed x fs (chain_of e l.1) l.0 u ps (ap (λ v. follows (figure_at b v)) q.0 ∙ none) l.3
  unfollowed x (frame.Operation (operation.More level first rest o) ∷ fs) e j u ps none l =
      let q = operands_end (unfollowed_by level (figure_at b j) none) l.2 in
      unfollowed x fs (expr.Chain first (rest ++ (o, e) ∷ l.1)) l.0 u ps (ap (λ v. follows (figure_at b v)) q.0 ∙ none) l.3
  unfollowed x (frame.Operation operation.Condition ∷ fs) e j u ps none l =
      elim l [ inl k ↦ unfollowed x fs e j u ps none k.1 | inr k ↦ apart follows (sym k.0) refl none ]
  unfollowed x (frame.Operation (operation.Yes depth c) ∷ fs) e j u ps none l = apart follows (sym l.0) refl none
  unfollowed x (frame.Operation (operation.No depth c y) ∷ fs) e j u ps none l = unfollowed x fs (expr.Choice c y e) _ u ps none l
  unfollowed x (frame.Operation (operation.Assign depth name o) ∷ fs) e j u ps none l = unfollowed x fs (expr.Assign name o e) _ u ps none l

pub unfollowed_ends : (b : List ℕ) (w : WordBuilder) (e : Expr) → follows (lexeme b w.at).figure ≡ false → Never (Left b (focused w (focus.Have e)))
unfolding Left
unfollowed_ends b w e none limit g u ps l = unfollowed b limit g (context_in w.holder) w.frames e (here g w) u ps none l.1

-- no expression ends a word
pub nothing_around : (b : List ℕ) (w : WordBuilder) (e : Expr) → w.frames ≡ [] → Never (Left b (focused w (focus.Have e)))
unfolding Left
nothing_around b w e empty limit g u ps l = subst (λ fs. Then b limit g (context_in w.holder) fs (one e) (here g w) u ps) empty l.1

-- an expression is an operand
pub no_operand_around : (b : List ℕ) (w : WordBuilder) (e : Expr) → (IsOperand w.holder → ⊥) → Never (Left b (focused w (focus.Have e)))
unfolding Left
no_operand_around b w e none limit g u ps l = none l.0

-- The end of an arithmetic expansion

pub closed_inside : (b : List ℕ) (i : ℕ) → is_closed b i ≡ true → i < length b
unfolding is_closed
closed_inside b i closed = let some = first_some (λ c. c == 41) (drop i b) closed in omega (arith, length-drop i b, some)

module _ (b : List ℕ) (w : WordBuilder) (h : Holder) (depth start inside : ℕ) (o : Opening) (e : Expr) where
  expansion_keeps : IsOperand w.holder → IsClose b o (lexeme b w.at)
      → Keeps b (Left b (framed w (frame.Opened h depth start inside o) (focus.Have e)))
      (given (record w { holder = h; depth = depth }) 0 (part.Arith (span start ((lexeme b w.at).end + 1)) e) ((lexeme b w.at).end + 1))
  unfolding Left
  expansion_keeps operand close =
      let end = (lexeme b w.at).end + 1 in
      let p = part.Arith (span start end) e in
      record {
        forth = λ limit g u ps l. held_left b limit g g.count w.mode h 0 p w.frames (spot g depth end) u ps l.1.3;
        back = λ g u ps l. (operand, (close.0, close.1, close.2, left_held b 64 g g.count w.mode h 0 p w.frames (spot g depth end) u ps l));
      }

  not_closed : (IsClose b o (lexeme b w.at) → ⊥) → Never (Left b (framed w (frame.Opened h depth start inside o) (focus.Have e)))
  unfolding Left
  not_closed other limit g u ps l = other (l.1.0, l.1.1, l.1.2)

  -- the step that may end the expansion
  expansion_steps : (new : WordBuilder) (res : Result (Option Next) Refusal) → IsOperand w.holder → ClosesArithmetic b w h depth start o e (lexeme b w.at) new res
      → Steps b (Left b (framed w (frame.Opened h depth start inside o) (focus.Have e))) new res
  expansion_steps new (Ok None) operand q =
      subst (λ v. Keeps b (Left b (framed w (frame.Opened h depth start inside o) (focus.Have e))) v) (sym q.1) (expansion_keeps operand q.0)
  expansion_steps new (Err Memory) operand q = tt
  expansion_steps new (Err (Syntax f at)) operand q = (q.0, not_closed q.1)
  expansion_steps new (Err (LeftOut f at)) operand q = (q.0, not_closed q.1)
  expansion_steps new _ operand q = absurd q

-- the same of a token, and of the frames before the innermost one was taken out
pub expansion_read : (b : List ℕ) (w : WordBuilder) (fs : List Frame) (h : Holder) (depth start inside : ℕ) (o : Opening) (e : Expr) (l : Lexeme) (new : WordBuilder)
    (res : Result (Option Next) Refusal) → w.frames ≡ frame.Opened h depth start inside o ∷ fs → IsOperand w.holder → IsLexeme b w.at l
    → ClosesArithmetic b (record w { frames = fs }) h depth start o e l new res → Steps b (Left b (focused w (focus.Have e))) new res
expansion_read b w fs h depth start inside o e l new res frames operand is q =
    let popped = record w { frames = fs } in
    let here = subst (λ t. ClosesArithmetic b popped h depth start o e t new res) is.0 q in
    steps_equal b (focused w (focus.Have e)) (framed popped (frame.Opened h depth start inside o) (focus.Have e)) new res
    (reframed w (frame.Opened h depth start inside o) fs (focus.Have e) frames) (expansion_steps b popped h depth start inside o e new res operand here)

pub expansion_moves : (b : List ℕ) (w : WordBuilder) (fs : List Frame) (h : Holder) (depth start : ℕ) (o : Opening) (e : Expr) (l : Lexeme) (new : WordBuilder)
    (res : Result (Option Next) Refusal) → IsLexeme b w.at l → ClosesArithmetic b (record w { frames = fs }) h depth start o e l new res → StepMoves b w new res
expansion_moves b w fs h depth start o e l new (Ok None) is q =
    let after : w.at ≤ l.start = is.1 in
    let forward : l.start ≤ l.end = is.2 in
    let inside : l.end < length b = closed_inside b l.end q.0.2 in
    subst (λ v. StepMoves b w v (Ok None)) (sym q.1) (omega arith, omega arith, (refl, refl, refl, refl, refl))
expansion_moves b w fs h depth start o e l new (Ok (Some n)) is q = absurd q
expansion_moves b w fs h depth start o e l new (Err f) is q = tt

-- a token that does not end the expansion is reported
pub not_closed_faults : (b : List ℕ) (old new : WordBuilder) (h : Holder) (depth start : ℕ) (o : Opening) (e : Expr) (l : Lexeme) (f : Refusal) → IsFault b f → (IsClose b o l → ⊥)
    → ClosesArithmetic b old h depth start o e l new (Err f)
not_closed_faults b old new h depth start o e l (Syntax f at) is other = (is, other)
not_closed_faults b old new h depth start o e l (LeftOut f at) is other = (is, other)
not_closed_faults b old new h depth start o e l _ is other = absurd is

-- The same of a token of arithmetic

module _ (b : List ℕ) (w : WordBuilder) (e : Expr) where
  pub operand_keeps : (f : Operation) (l : Lexeme) (new : WordBuilder) → IsLexeme b w.at l → OperandRead w f e l new
      → Keeps b (Left b (framed w (frame.Operation f) (focus.Have e))) new
  operand_keeps f l new is q = read_keeps b w e f new (subst (λ t. OperandRead w f e t new) is.0 q)

  -- what is reported if a token does not fit refuses
  told_refuses : (f : Operation) (fits : Bool) (l : Lexeme) (r : Refusal) → IsLexeme b w.at l → Began b w.holder
      → (fits ≡ false → Never (Left b (framed w (frame.Operation f) (focus.Have e)))) → (r ≡ Memory) ⊎ ((fits ≡ false) × (r ≡ bad w.holder l.figure l.start))
      → Refuses b (Left b (framed w (frame.Operation f) (focus.Have e))) r
  told_refuses f fits l r is began none (inl memory) = subst (λ v. Refuses b (Left b (framed w (frame.Operation f) (focus.Have e))) v) (sym memory) tt
  told_refuses f fits l r is began none (inr told) =
      fault_refuses b (Left b (framed w (frame.Operation f) (focus.Have e))) r (subst (λ v. IsFault b v) (sym told.1) (bad_is_fault b w.at l w.holder is began)) (none told.0)

  pub misplaced_close : (f : Operation) (depth : ℕ) (l : Lexeme) (r : Refusal) → f ≡ operation.Parenthesis depth → IsLexeme b w.at l → Began b w.holder
      → (r ≡ Memory) ⊎ ((is_close l.figure ≡ false) × (r ≡ bad w.holder l.figure l.start)) → Refuses b (Left b (framed w (frame.Operation f) (focus.Have e))) r
  misplaced_close f depth l r which is began told =
      told_refuses f (is_close l.figure) l r is began
      (λ other. subst (λ o. Never (Left b (framed w (frame.Operation o) (focus.Have e)))) (sym which)
      (no_close b w e depth (subst (λ t. is_close t.figure ≡ false) is.0 other))) told

  pub misplaced_colon : (f : Operation) (depth : ℕ) (c : Expr) (l : Lexeme) (r : Refusal) → f ≡ operation.Yes depth c → IsLexeme b w.at l → Began b w.holder
      → (r ≡ Memory) ⊎ ((is_colon l.figure ≡ false) × (r ≡ bad w.holder l.figure l.start)) → Refuses b (Left b (framed w (frame.Operation f) (focus.Have e))) r
  misplaced_colon f depth c l r which is began told =
      told_refuses f (is_colon l.figure) l r is began
      (λ other. subst (λ o. Never (Left b (framed w (frame.Operation o) (focus.Have e)))) (sym which)
      (no_colon b w e depth c (subst (λ t. is_colon t.figure ≡ false) is.0 other))) told

  pub choice_read_on : (f : Operation) (l : Lexeme) (place : ℕ) (new : WordBuilder) (res : Result (Option Next) Refusal) → f ≡ operation.Condition → IsLexeme b w.at l
      → is_question l.figure ≡ true → place ≤ length b → Enters w (operation.Yes w.depth e) focus.Expression l.end place new res
      → Steps b (Left b (framed w (frame.Operation f) (focus.Have e))) new res
  choice_read_on f l place new res which is question inside q =
      let here = subst (λ t. is_question t.figure ≡ true) is.0 question in
      let entered = subst (λ t. Enters w (operation.Yes w.depth e) focus.Expression t.end place new res) is.0 q in
      subst (λ o. Steps b (Left b (framed w (frame.Operation o) (focus.Have e))) new res) (sym which) (choice_steps b w e place new res here inside entered)
