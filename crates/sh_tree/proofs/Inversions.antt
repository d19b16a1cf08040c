-- What a reading begins with, by the token or the sign at its first byte.
use Rattle.std.proofs.Common.{◌≡◌, ℕ, ◌+◌, ◌-◌, ◌<◌, Bool, true, false, not, ◌||◌, ◌⊎◌, inl, inr, List, [], ◌∷◌, Option, Some, None, take, refl, sym, ap, ◌∙◌, subst}
use Rattle.std.proofs.lemmas.Bool.{true≢false, or_left, or_right}
use Rattle.std.proofs.lemmas.Option.{same_Some}
use Rattle.sh_tree.specs.declared.tree.AndOr.{AndOr}
use Rattle.sh_tree.specs.declared.tree.Command.{Command}
use Rattle.sh_tree.specs.declared.tree.Element.{Element}
use Rattle.sh_tree.specs.declared.tree.Expr.{Expr}
use Rattle.sh_tree.specs.declared.tree.Item.{Item}
use Rattle.sh_tree.specs.declared.tree.Kind.{Kind}
use Rattle.sh_tree.specs.declared.tree.Link.{Link}
use Rattle.sh_tree.specs.declared.tree.ParameterOperator.TheVariants as operator
use Rattle.sh_tree.specs.declared.tree.Part.{Part}
use Rattle.sh_tree.specs.declared.tree.Part.TheVariants as part
use Rattle.sh_tree.specs.declared.tree.Pipe.{Pipe}
use Rattle.sh_tree.specs.declared.tree.Redirect.{Redirect}
use Rattle.sh_tree.specs.declared.tree.Script.{Script}
use Rattle.sh_tree.specs.declared.tree.Span.{Span}
use Rattle.sh_tree.specs.declared.tree.Word.{Word}
use Rattle.sh_tree.specs.declared.token.word.Context.{Context}
use Rattle.sh_tree.specs.declared.token.word.Sign.{Sign}
use Rattle.sh_tree.specs.declared.token.word.Sign.TheVariants as sign
use Rattle.sh_tree.specs.declared.token.arithmetic.Figure.{Figure}
use Rattle.sh_tree.specs.declared.token.arithmetic.Figure.TheVariants as figure
use Rattle.sh_tree.specs.declared.token.command.Lead.{Lead}
use Rattle.sh_tree.specs.declared.token.command.Lead.TheVariants as lead
use Rattle.sh_tree.specs.declared.token.command.Operator.TheVariants as op
use Rattle.sh_tree.specs.declared.token.command.Redirection.{Redirection}
use Rattle.sh_tree.specs.declared.token.command.Reserved.TheVariants as reserved
use Rattle.sh_tree.specs.declared.token.command.Stage.{Stage}
use Rattle.sh_tree.specs.declared.token.command.Stage.TheVariants.{First, Prefixed, Named}
use Rattle.sh_tree.specs.standard.language.Substitutions.{commands_text, closes, removes_no_backslash}
use Rattle.sh_tree.specs.standard.language.Words.{is_quoted, in_double, in_use, in_removal, in_arithmetic}
use Rattle.sh_tree.specs.standard.language.Arithmetic.{is_closed, unary_of}
use Rattle.sh_tree.specs.standard.language.Commands.{blanks, lead_at, redirection, redirects, direction_of, strip_of, is_word, is_redirection, is_reserved, is_bar, is_newline_lead, begins_simple, begins_compound, begins_command, begins_pipeline, separator, link_of}
use Rattle.sh_tree.specs.standard.language.Contexts.{in_word, in_unsplit, in_stage}
use Rattle.sh_tree.specs.standard.language.Parts.{is_quoted_word}
use Rattle.sh_tree.specs.standard.language.HereDocuments.{Mark, behind_line, delimiter_of, end_line, is_ambiguous, keeps_document}
use Rattle.sh_tree.specs.standard.language.Contexts.{in_document_of}
use Rattle.sh_tree.specs.standard.language.States.{Spot, State, Document, to, deeper, behind, facing, within, nth, waits, next, past, on_line, in_document, with_mark, begun, lower, as_deep, closing}
use Rattle.sh_tree.specs.standard.language.Trees.{span, word, param}
use Rattle.sh_tree.specs.standard.language.Reading as r
use Rattle.sh_tree.specs.standard.language.Reading.{is_some, sign_at, after, prior_of, figure_at, over, lead_of, lead_here, skip, parted, stage_behind, redirected, is_empty, ReadsParts, ReadsPart, ReadsExpression, ReadsConditional, ReadsLevel, ReadsUnary, ReadsWord, ReadsRedirect, ReadsRedirects, ReadsDocuments, ReadsBreaks, ReadsElements, ReadsCommand, ReadsCompound, ReadsPipeline, ReadsCommands, ReadsAndOr, ReadsLinks, ReadsItems, ReadsList, ReadsSequence, ReadsScript}

-- what separates two values
pub apart : {A : Type 0} (f : A → Bool) {x y : A} → x ≡ y → f x ≡ true → f y ≡ false → ⊥
apart f e h k = true≢false (sym h ∙ ap f e ∙ k)

-- Words

module _ (limit : ℕ) (b : List ℕ) where
  -- what a part is that begins with the sign
  abbrev pub PartIs : Context → Sign → Spot → ℕ → Spot → Part → Type 0
  PartIs x sign.Plain s e v p = (v ≡ to e s) × (p ≡ part.Plain (span s.at e))
  PartIs x sign.Escaped s e v p = (v ≡ to e s) × (p ≡ part.Escaped (span s.at e))
  PartIs x sign.Joined s e v p = (v ≡ to e s) × (p ≡ part.Joined (span s.at e))
  PartIs x (sign.Single style) s e v p = (v ≡ to e s) × (p ≡ part.Single style (span s.at e))
  PartIs x sign.Tilde s e v p = (v ≡ to e s) × (p ≡ part.Tilde (span s.at e))
  PartIs x sign.Double s e v p =
      (u : Spot) × (ps : List Part) × (v ≡ behind u.at u s) × (p ≡ part.Double (span s.at u.at) ps) × ReadsParts limit b (in_double x) 0 (to e s) u ps
  PartIs x (sign.Value q) s e v p = (v ≡ to e s) × (p ≡ param s.at e q operator.Value)
  PartIs x (sign.Length q) s e v p = (v ≡ to e s) × (p ≡ param s.at e q operator.Length)
  PartIs x (sign.Use q a colon) s e v p =
      (u : Spot) × (ps : List Part) × (v ≡ behind u.at u s) × (p ≡ param s.at u.at q (operator.Use a colon (word e (u.at - 1) ps))) × (s.depth < limit)
      × ReadsParts limit b (in_use x a e) 0 (deeper e s) u ps
  PartIs x (sign.Remove q r) s e v p =
      (u : Spot) × (ps : List Part) × (v ≡ behind u.at u s) × (p ≡ param s.at u.at q (operator.Remove r (word e (u.at - 1) ps))) × (s.depth < limit)
      × ReadsParts limit b (in_removal x e) 0 (deeper e s) u ps
  PartIs x (sign.Substitution style) s e v p =
      (u : Spot) × (t : Script) × (v ≡ behind (u.at + 1) u s) × (p ≡ part.Command style (span s.at (u.at + 1)) t) × (s.depth < limit)
      × ReadsScript limit (commands_text style b e) (deeper (blanks s.joins (commands_text style b e) e) s) u t × (closes style (commands_text style b e) u.at ≡ true)
      × (removes_no_backslash style (is_quoted x.site) b e ≡ true)
  PartIs x sign.Arith s e v p =
      (u : Spot) × (a : Expr) × (v ≡ behind ((over b u).at + 1) u s) × (p ≡ part.Arith (span s.at ((over b u).at + 1)) a) × (s.depth < limit)
      × ReadsExpression limit b (in_arithmetic x) (deeper e s) u a × (figure_at b u ≡ figure.Close) × (is_closed b (over b u).at ≡ true)
  PartIs x _ s e v p = ⊥

  -- the first part of a list, and the others
  abbrev pub FirstPart : Context → ℕ → Sign → Spot → Spot → List Part → Type 0
  FirstPart x prior g s u ps =
      (v : Spot) × (p : Part) × (qs : List Part) × (ps ≡ p ∷ qs) × PartIs x g s (after b x prior s) v p × ReadsParts limit b x (prior_of b g v.at) v u qs

pub part_is : {limit : ℕ} {b : List ℕ} {x : Context} {g : Sign} {s v : Spot} {e : ℕ} {p : Part} → ReadsPart limit b x g s e v p → PartIs limit b x g s e v p
part_is r.plain = (refl, refl)
part_is r.escaped = (refl, refl)
part_is r.joined = (refl, refl)
part_is r.single_quoted = (refl, refl)
part_is r.tilde = (refl, refl)
part_is (r.double_quoted {u = u} {ps = ps} h) = (u, ps, refl, refl, h)
part_is r.value = (refl, refl)
part_is r.length_value = (refl, refl)
part_is (r.use_word {u = u} {ps = ps} l h) = (u, ps, refl, refl, l, h)
part_is (r.removal {u = u} {ps = ps} l h) = (u, ps, refl, refl, l, h)
part_is (r.arithmetic {u = u} {a = a} l h c d) = (u, a, refl, refl, l, h, c, d)
part_is (r.substitution {u = u} {t = t} l k h c) = (u, t, refl, refl, l, h, c, k)

-- a part may begin with the sign
abbrev pub is_part : Sign → Bool
is_part sign.Stop = false
is_part sign.Tabs = false
is_part _ = true

-- no part begins with the sign, and no list of parts ends with it
abbrev pub is_refused : Sign → Bool
is_refused sign.Open = true
is_refused (sign.Fault f) = true
is_refused (sign.LeftOut f) = true
is_refused _ = false

pub first_part : {limit : ℕ} {b : List ℕ} {x : Context} {prior : ℕ} {s u : Spot} {ps : List Part} (g : Sign) → sign_at b x prior s ≡ g → is_part g ≡ true
    → ReadsParts limit b x prior s u ps → FirstPart limit b x prior g s u ps
first_part g is some (r.stop h) = absurd (apart is_part (sym is ∙ h) some refl)
first_part g is some (r.tabs h p) = absurd (apart is_part (sym is ∙ h) some refl)
first_part {limit = limit} {b = b} {x = x} {prior = prior} {s = s} {u = u} g is some (r.more {v = v} {g = f} {p = p} {ps = qs} h q rest) =
    let e : f ≡ g = sym h ∙ is in
    (v, p, qs, refl, subst (λ k. PartIs limit b x k s (after b x prior s) v p) e (part_is q), subst (λ k. ReadsParts limit b x (prior_of b k v.at) v u qs) e rest)

-- where a plain part ends, its context goes on
pub behind_plain : {limit : ℕ} {b : List ℕ} {x : Context} {prior : ℕ} {s u : Spot} {ps : List Part} → sign_at b x prior s ≡ sign.Plain → ReadsParts limit b x prior s u ps
    → (qs : List Part) × ReadsParts limit b x (prior_of b sign.Plain (after b x prior s)) (to (after b x prior s) s) u qs
behind_plain {limit = limit} {b = b} {x = x} {u = u} is h =
    let f = first_part sign.Plain is refl h in
    (f.2, subst (λ v. ReadsParts limit b x (prior_of b sign.Plain v.at) v u f.2) f.4.0 f.5)

pub stopped : {limit : ℕ} {b : List ℕ} {x : Context} {prior : ℕ} {s u : Spot} {ps : List Part} → sign_at b x prior s ≡ sign.Stop → ReadsParts limit b x prior s u ps
    → (u ≡ to (after b x prior s) s) × (ps ≡ [])
stopped is (r.stop h) = (refl, refl)
stopped is (r.tabs h p) = cc
stopped {limit = limit} {b = b} {x = x} {prior = prior} {s = s} is (r.more {v = v} {p = p} h q rest) =
    absurd (subst (λ g. PartIs limit b x g s (after b x prior s) v p) (sym h ∙ is) (part_is q))

no_part : (limit : ℕ) (b : List ℕ) (x : Context) (g : Sign) (s : Spot) (e : ℕ) (v : Spot) (p : Part) → is_refused g ≡ true → PartIs limit b x g s e v p → ⊥
no_part limit b x sign.Open s e v p h q = q
no_part limit b x (sign.Fault f) s e v p h q = q
no_part limit b x (sign.LeftOut f) s e v p h q = q
no_part limit b x _ s e v p h q = true≢false (sym h)

refused_is_part : (g : Sign) → is_refused g ≡ true → is_part g ≡ true
refused_is_part sign.Open h = refl
refused_is_part (sign.Fault f) h = refl
refused_is_part (sign.LeftOut f) h = refl
refused_is_part _ h = absurd (true≢false (sym h))

-- nothing is read at a fault, at a refused form or where the text ends too early
pub nothing_at : {limit : ℕ} {b : List ℕ} {x : Context} {prior : ℕ} {s u : Spot} {ps : List Part} (g : Sign) → sign_at b x prior s ≡ g → is_refused g ≡ true
    → ReadsParts limit b x prior s u ps → ⊥
nothing_at {limit = limit} {b = b} {x = x} {prior = prior} {s = s} g is refused h =
    let f = first_part g is (refused_is_part g refused) h in no_part limit b x g s (after b x prior s) f.0 f.1 refused f.4

pub word_parts : {limit : ℕ} {b : List ℕ} {x : Context} {s u : Spot} {w : Word} → ReadsWord limit b x s u w
    → (ps : List Part) × (w ≡ word s.at u.at ps) × ReadsParts limit b x 0 s u ps
word_parts (r.whole_word {ps = ps} h l k) = (ps, refl, h)

-- a word of one part, up to e
pub one_part_word : {limit : ℕ} {b : List ℕ} {x : Context} {s u : Spot} {w : Word} (g : Sign) (p : Part) (e : ℕ) → sign_at b x 0 s ≡ g → is_part g ≡ true
    → ((v : Spot) (q : Part) → PartIs limit b x g s (after b x 0 s) v q → (v ≡ to e s) × (q ≡ p)) → sign_at b x (prior_of b g e) (to e s) ≡ sign.Stop
    → after b x (prior_of b g e) (to e s) ≡ e → ReadsWord limit b x s u w → (u ≡ to e s) × (w ≡ word s.at e (p ∷ []))
one_part_word {limit = limit} {b = b} {x = x} {s = s} {u = u} g p e is some only stops there h =
    let t = word_parts h in
    let f = first_part g is some t.2 in
    let o = only f.0 f.1 f.4 in
    let rest = subst (λ v. ReadsParts limit b x (prior_of b g v.at) v u f.2) o.0 f.5 in
    let q = stopped stops rest in
    let end : u ≡ to e s = q.0 ∙ ap (λ i. to i s) there in
    let parts : t.0 ≡ p ∷ [] = f.3 ∙ ap (λ v. v ∷ f.2) o.1 ∙ ap (λ v. p ∷ v) q.1 in
    (end, t.1 ∙ ap (λ v. word s.at v.at t.0) end ∙ ap (λ v. word s.at e v) parts)

-- a word of plain bytes ends after them
pub bare_word_ends : {limit : ℕ} {b : List ℕ} {x : Context} {s u : Spot} {w : Word} → sign_at b x 0 s ≡ sign.Plain
    → sign_at b x (prior_of b sign.Plain (after b x 0 s)) (to (after b x 0 s) s) ≡ sign.Stop → ReadsWord limit b x s u w
    → u ≡ to (after b x (prior_of b sign.Plain (after b x 0 s)) (to (after b x 0 s) s)) s
bare_word_ends is stops h = let rest = behind_plain is (word_parts h).2 in (stopped stops rest.1).0

-- Arithmetic

-- an expression can begin with the figure
unfoldable pub begins_operand : Figure → Bool
begins_operand figure.Constant = true
begins_operand figure.Name = true
begins_operand figure.Open = true
begins_operand figure.Dollar = true
begins_operand g = is_some (unary_of g)

some_is : {A : Type 0} {o : Option A} {x : A} → o ≡ Some x → is_some o ≡ true
unfolding is_some
some_is e = rw e refl

signed_begins : (g : Figure) → is_some (unary_of g) ≡ true → begins_operand g ≡ true
unfolding begins_operand unary_of is_some
signed_begins figure.Constant h = refl
signed_begins figure.Name h = refl
signed_begins figure.Open h = refl
signed_begins figure.Dollar h = refl
signed_begins _ h = h

unary_begins : {limit : ℕ} {b : List ℕ} {x : Context} {g : Figure} {s u : Spot} {e : Expr} → ReadsUnary limit b x g s u e → begins_operand g ≡ true
unfolding begins_operand
unary_begins r.constant = refl
unary_begins r.variable = refl
unary_begins (r.signed {g = g} o l h) = signed_begins g (some_is o)
unary_begins (r.parenthesis l h c) = refl
unary_begins (r.expansion i e h) = refl

level_begins : {limit : ℕ} {b : List ℕ} {x : Context} {l : ℕ} {s u : Spot} {e : Expr} → ReadsLevel limit b x l s u e → begins_operand (figure_at b s) ≡ true
level_begins (r.chain l h o) = level_begins h
level_begins (r.operand l i h) = ap begins_operand i ∙ unary_begins h

conditional_begins : {limit : ℕ} {b : List ℕ} {x : Context} {s u : Spot} {e : Expr} → ReadsConditional limit b x s u e → begins_operand (figure_at b s) ≡ true
conditional_begins (r.one_level h q) = level_begins h
conditional_begins (r.choice h q l y c n) = level_begins h

pub expression_begins : {limit : ℕ} {b : List ℕ} {x : Context} {s u : Spot} {e : Expr} → ReadsExpression limit b x s u e → begins_operand (figure_at b s) ≡ true
unfolding begins_operand
expression_begins (r.assignment n a l h) = ap begins_operand n
expression_begins (r.no_assignment a h) = conditional_begins h

-- Lists

pub script_is : {limit : ℕ} {b : List ℕ} {s u : Spot} {t : Script} → ReadsScript limit b s u t
    → (v : State) × (u ≡ v.spot) × (waits v.pending ≡ false) × ReadsSequence limit b (nth v.bodies) (within s) v t
script_is (r.script {u = v} h w) = (v, refl, w, h)

pub no_breaks : {limit : ℕ} {b : List ℕ} {s u : State} → is_newline_lead (lead_here b s) ≡ false → ReadsBreaks limit b s u → u ≡ s
no_breaks on (r.no_break h) = refl
no_breaks on (r.more_breaks h q d k) = absurd (true≢false (sym h ∙ on))

pub some_breaks : {limit : ℕ} {b : List ℕ} {s u : State} → is_newline_lead (lead_here b s) ≡ true → ReadsBreaks limit b s u
    → (v : State) × (s.spot.quiet ≡ false) × ReadsDocuments limit b s.pending (on_line (s.spot.at + 1) s) v × ReadsBreaks limit b (next b v.spot.at v) u
some_breaks on (r.no_break h) = absurd (true≢false (sym on ∙ h))
some_breaks on (r.more_breaks {u = v} h q d k) = (v, q, d, k)

module _ (limit : ℕ) (b : List ℕ) (s : State) where
  -- the body at s and the line that ends it
  abbrev pub DocumentIs : Mark → Type 0
  DocumentIs m =
      (l : Span) × (u : Spot) × (ps : List Part) × (end_line m b s.spot.at ≡ Some l) × (is_ambiguous m b s.spot.at l ≡ false)
      × (keeps_document b s.spot.joins s.spot.tabs m (span s.spot.at (behind_line b l.end)) ≡ true)
      × ReadsParts limit (take l.start b) (in_document_of m) 10 (in_document m s) u ps

first_mark : {m n : Mark} {ms ns : List Mark} → m ∷ ms ≡ n ∷ ns → m ≡ n
first_mark {m = m} e = ap (head_or m) e
  where
    head_or : Mark → List Mark → Mark
    head_or d [] = d
    head_or d (x ∷ xs) = x

pub document_is : {limit : ℕ} {b : List ℕ} {ms : List Mark} {s v : State} (m : Mark) (ns : List Mark) → ms ≡ m ∷ ns → ReadsDocuments limit b ms s v → DocumentIs limit b s m
document_is m ns is r.no_body = cc
document_is {limit = limit} {b = b} {s = s} m ns is (r.more_bodies {u = u} {m = n} {l = l} {ps = ps} e a c h k d) =
    let found : DocumentIs limit b s n = (l, u, ps, e, a, c, h) in
    subst (λ v. DocumentIs limit b s v) (first_mark is) found

-- at a token that begins no pipeline a sequence is empty
pub no_sequence : {limit : ℕ} {b : List ℕ} {body : ℕ → Document} {s u : State} {t : Script} → is_newline_lead (lead_here b s) ≡ false → begins_pipeline (lead_here b s) ≡ false
    → ReadsSequence limit b body s u t → u ≡ s
no_sequence on none (r.nothing k h) = no_breaks on k
no_sequence {b = b} on none (r.sequence (r.list k h i)) = absurd (true≢false (sym h ∙ ap (λ v. begins_pipeline (lead_here b v)) (no_breaks on k) ∙ none))

pub list_items : {limit : ℕ} {b : List ℕ} {body : ℕ → Document} {s u : State} {t : Script} → is_newline_lead (lead_here b s) ≡ false → ReadsList limit b body s u t
    → (is : List Item) × ReadsItems limit b body s u is
list_items {limit = limit} {b = b} {body = body} {u = u} on (r.list {is = is} k h i) = (is, subst (λ v. ReadsItems limit b body v u is) (no_breaks on k) i)

pub sequence_items : {limit : ℕ} {b : List ℕ} {body : ℕ → Document} {s u : State} {t : Script} → is_newline_lead (lead_here b s) ≡ false → begins_pipeline (lead_here b s) ≡ true
    → ReadsSequence limit b body s u t → (is : List Item) × ReadsItems limit b body s u is
sequence_items {b = b} on some (r.nothing k h) = absurd (true≢false (sym some ∙ sym (ap (λ v. begins_pipeline (lead_here b v)) (no_breaks on k)) ∙ h))
sequence_items on some (r.sequence l) = list_items on l

module _ (limit : ℕ) (b : List ℕ) (body : ℕ → Document) where
  -- what follows an and-or list that ends at u
  abbrev pub Follows : State → State → Type 0
  Follows u v =
      (separator (lead_here b u) ≡ None) × (not (is_reserved (lead_here b u)) || u.closed ≡ true) × (v ≡ u)
      ⊎ (g : Bool) × (w : State) × (separator (lead_here b u) ≡ Some g) × ReadsBreaks limit b (parted b u) w
      × ((begins_pipeline (lead_here b w) ≡ false) × (v ≡ w) ⊎ (is : List Item) × (begins_pipeline (lead_here b w) ≡ true) × ReadsItems limit b body w v is)

pub items_are : {limit : ℕ} {b : List ℕ} {body : ℕ → Document} {s v : State} {is : List Item} → ReadsItems limit b body s v is
    → (u : State) × (l : AndOr) × ReadsAndOr limit b body s u l × Follows limit b body u v
items_are (r.last_item {u = u} {l = l} h n c) = (u, l, h, inl (n, c, refl))
items_are (r.ended_item {u = u} {v = v} {l = l} {g = g} h n k e) = (u, l, h, inr (g, v, n, k, inl (e, refl)))
items_are (r.more_items {u = u} {v = v} {l = l} {g = g} {is = is} h n k e i) = (u, l, h, inr (g, v, n, k, inr (is, e, i)))

-- no separator follows: the items end here, and a reserved word can follow only where a closing
-- word is recognized
pub items_end : (limit : ℕ) (b : List ℕ) (body : ℕ → Document) (u v : State) → separator (lead_here b u) ≡ None → Follows limit b body u v
    → (not (is_reserved (lead_here b u)) || u.closed ≡ true) × (v ≡ u)
items_end limit b body u v none (inl h) = (h.1, h.2)
items_end limit b body u v none (inr h) = let e : None ≡ Some h.0 = sym none ∙ h.2 in cc

-- a separator follows, and then newlines
pub items_parted : (limit : ℕ) (b : List ℕ) (body : ℕ → Document) (u v : State) (g : Bool) → separator (lead_here b u) ≡ Some g → Follows limit b body u v
    → (w : State) × ReadsBreaks limit b (parted b u) w
items_parted limit b body u v g some (inl h) = let e : Some g ≡ None = sym some ∙ h.0 in cc
items_parted limit b body u v g some (inr h) = (h.1, h.3)

-- a separator follows, and then what begins no pipeline
pub items_ended : (limit : ℕ) (b : List ℕ) (body : ℕ → Document) (u v : State) (g : Bool) → separator (lead_here b u) ≡ Some g → is_newline_lead (lead_here b (parted b u)) ≡ false
    → begins_pipeline (lead_here b (parted b u)) ≡ false → Follows limit b body u v → v ≡ parted b u
items_ended limit b body u v g some on none (inl h) = let e : Some g ≡ None = sym some ∙ h.0 in cc
items_ended limit b body u v g some on none (inr h) =
    let same : h.1 ≡ parted b u = no_breaks on h.3 in
    elim h.4 [
      | inl e ↦ e.1 ∙ same
      | inr i ↦ absurd (true≢false (sym i.1 ∙ ap (λ w. begins_pipeline (lead_here b w)) same ∙ none))
    ]

unlinked : {limit : ℕ} {b : List ℕ} {body : ℕ → Document} {s v : State} {ps : List (Link × Pipe)} → link_of (lead_here b s) ≡ None → ReadsLinks limit b body s v ps → v ≡ s
unlinked none (r.no_link h) = refl
unlinked none (r.more_links h k p l) = cc

module _ (limit : ℕ) (b : List ℕ) (body : ℕ → Document) where
  -- the first command of an and-or list from s to v, which ends with that command if neither `|`
  -- nor a link follows
  abbrev pub FirstCommand : State → State → Type 0
  FirstCommand s v = (u : State) × (c : Command) × ReadsCommand limit b body s u c × (is_bar (lead_here b u) ≡ false → link_of (lead_here b u) ≡ None → v ≡ u)

commands_first : {limit : ℕ} {b : List ℕ} {body : ℕ → Document} {s u v : State} {cs : List Command} {ps : List (Link × Pipe)} → ReadsCommands limit b body s u cs
    → ReadsLinks limit b body u v ps → FirstCommand limit b body s v
commands_first (r.last_command {u = u} {c = c} h bar) l = (u, c, h, λ on none. unlinked none l)
commands_first (r.more_commands {u = u} {c = c} h bar k cs) l = (u, c, h, λ on none. absurd (true≢false (sym bar ∙ on)))

pipeline_first : {limit : ℕ} {b : List ℕ} {body : ℕ → Document} {s u v : State} {p : Pipe} {ps : List (Link × Pipe)} → begins_command (lead_here b s) ≡ true
    → ReadsPipeline limit b body s u p → ReadsLinks limit b body u v ps → FirstCommand limit b body s v
unfolding begins_command begins_simple begins_compound is_redirection
pipeline_first some (r.negated h cs) l = absurd (apart begins_command h some refl)
pipeline_first some (r.straight h cs) l = commands_first cs l

and_or_first : {limit : ℕ} {b : List ℕ} {body : ℕ → Document} {s v : State} {l : AndOr} → begins_command (lead_here b s) ≡ true → ReadsAndOr limit b body s v l
    → FirstCommand limit b body s v
and_or_first some (r.linked p l) = pipeline_first some p l

-- items that begin with a command, and what follows where that is the only one of its and-or list
pub items_first : {limit : ℕ} {b : List ℕ} {body : ℕ → Document} {s v : State} {is : List Item} → begins_command (lead_here b s) ≡ true → ReadsItems limit b body s v is
    → (u : State) × (c : Command) × ReadsCommand limit b body s u c × (is_bar (lead_here b u) ≡ false → link_of (lead_here b u) ≡ None → Follows limit b body u v)
items_first {limit = limit} {b = b} {body = body} {v = v} some h =
    let i = items_are h in
    let f = and_or_first some i.2 in
    (f.0, f.1, f.2, λ on none. subst (λ w. Follows limit b body w v) (f.3 on none) i.3)

-- Commands

simple_not_compound : (l : Lead) → begins_simple l ≡ true → begins_compound l ≡ false
unfolding begins_simple begins_compound is_redirection redirects
simple_not_compound (lead.Operator op.LeftParenthesis) h = absurd (true≢false (sym h))
simple_not_compound (lead.Reserved w) h = absurd (true≢false (sym h))
simple_not_compound _ h = refl

pub redirection_is_simple : (l : Lead) → is_redirection l ≡ true → begins_simple l ≡ true
unfolding begins_simple is_redirection
redirection_is_simple lead.Word h = refl
redirection_is_simple lead.Assignment h = refl
redirection_is_simple _ h = h

pub no_redirection : (l : Lead) → begins_simple l ≡ false → is_redirection l ≡ false
unfolding begins_simple is_redirection
no_redirection lead.Word h = refl
no_redirection lead.Assignment h = refl
no_redirection _ h = h

pub simple_command_begins : (l : Lead) → begins_simple l ≡ true → begins_command l ≡ true
unfolding begins_command
simple_command_begins lead.Definition h = refl
simple_command_begins l h = or_left (begins_simple l) (begins_compound l) h

pub compound_command_begins : (l : Lead) → begins_compound l ≡ true → begins_command l ≡ true
unfolding begins_command
compound_command_begins lead.Definition h = refl
compound_command_begins l h = or_right (begins_simple l) (begins_compound l) h

pub word_is : (l : Lead) → is_word l ≡ true → l ≡ lead.Word
word_is lead.Word h = refl
word_is _ h = absurd (true≢false (sym h))

pub compound_begins : {limit : ℕ} {b : List ℕ} {body : ℕ → Document} {l : Lead} {s v : State} {k : Kind} → ReadsCompound limit b body l s v k → begins_compound l ≡ true
unfolding begins_compound
compound_begins (r.group d h e) = refl
compound_begins (r.subshell d h e) = refl
compound_begins (r.cond d h) = refl
compound_begins (r.while_loop d h g) = refl
compound_begins (r.until_loop d h g) = refl
compound_begins (r.for_loop d n h g) = refl
compound_begins (r.case_of d i w h k g c) = refl

pub simple_is : {limit : ℕ} {b : List ℕ} {body : ℕ → Document} {s v : State} {c : Command} → begins_simple (lead_here b s) ≡ true → ReadsCommand limit b body s v c
    → (u : State) × (es : List Element) × (v ≡ closing false u) × ReadsElements limit b body First (begun s) u es
unfolding begins_simple is_redirection
simple_is some (r.simple_command {u = u} {es = es} h e) = (u, es, refl, e)
simple_is some (r.compound_command {l = l} h c q) = absurd (true≢false (sym (compound_begins c) ∙ simple_not_compound l (sym (ap begins_simple h) ∙ some)))
simple_is some (r.definition h o p k i c) = absurd (apart begins_simple h some refl)

pub compound_is : {limit : ℕ} {b : List ℕ} {body : ℕ → Document} {s v : State} {c : Command} (l : Lead) → lead_here b s ≡ l → begins_compound l ≡ true
    → ReadsCommand limit b body s v c
    → (u : State) × (w : State) × (k : Kind) × (qs : List Redirect) × (v ≡ closing (is_empty qs) w) × ReadsCompound limit b body l (begun s) u k × ReadsRedirects limit b body u w qs
unfolding begins_compound
compound_is l is some (r.simple_command h e) = absurd (true≢false (sym some ∙ ap begins_compound (sym is) ∙ simple_not_compound _ h))
compound_is {limit = limit} {b = b} {body = body} {s = s} l is some (r.compound_command {u = u} {v = w} {l = m} {k = k} {rs = qs} h c q) =
    (u, w, k, qs, refl, subst (λ n. ReadsCompound limit b body n (begun s) u k) (sym h ∙ is) c, q)
compound_is l is some (r.definition h o p k i c) = absurd (apart begins_compound (sym is ∙ h) some refl)

pub group_is : {limit : ℕ} {b : List ℕ} {body : ℕ → Document} {s v : State} {k : Kind} (l : Lead) → l ≡ lead.Reserved reserved.LeftBrace → ReadsCompound limit b body l s v k
    → (u : State) × (t : Script) × (v ≡ as_deep s (skip b 1 u)) × (lead_here b u ≡ lead.Reserved reserved.RightBrace) × ReadsList limit b body (lower (skip b 1 s)) u t
group_is l is (r.group {u = u} {t = t} d h e) = (u, t, refl, e, h)
group_is l is (r.subshell d h e) = cc
group_is l is (r.cond d h) = cc
group_is l is (r.while_loop d h g) = cc
group_is l is (r.until_loop d h g) = cc
group_is l is (r.for_loop d n h g) = cc
group_is l is (r.case_of d i w h k g c) = cc

-- Elements and redirections

pub elements_end : {limit : ℕ} {b : List ℕ} {body : ℕ → Document} {g : Stage} {s v : State} {es : List Element} → begins_simple (lead_of b g s) ≡ false
    → ReadsElements limit b body g s v es → v ≡ s
unfolding begins_simple
elements_end none (r.no_element h) = refl
elements_end none (r.assigned_element h w e) = absurd (apart begins_simple (sym h) refl none)
elements_end none (r.word_element h w e) = absurd (apart begins_simple (sym h) refl none)
elements_end {b = b} {g = g} {s = s} none (r.redirect_element h q e) = absurd (true≢false (sym (redirection_is_simple (lead_of b g s) h) ∙ none))

pub elements_word : {limit : ℕ} {b : List ℕ} {body : ℕ → Document} {g : Stage} {s v : State} {es : List Element} → lead_of b g s ≡ lead.Word
    → ReadsElements limit b body g s v es
    → (u : Spot) × (w : Word) × (fs : List Element) × ReadsWord limit b (in_stage b g s.spot.at) (facing s) u w
    × ReadsElements limit b body (stage_behind b g s.spot.at) (past b u s) v fs
unfolding begins_simple is_redirection
elements_word is (r.no_element h) = absurd (apart begins_simple (sym is) refl h)
elements_word is (r.assigned_element h w e) = absurd (apart is_word (sym is ∙ h) refl refl)
elements_word is (r.word_element {u = u} {w = w} {es = fs} h read e) = (u, w, fs, read, e)
elements_word is (r.redirect_element h q e) = absurd (apart is_redirection is h refl)

pub elements_redirect : {limit : ℕ} {b : List ℕ} {body : ℕ → Document} {g : Stage} {s v : State} {es : List Element} → is_redirection (lead_of b g s) ≡ true
    → ReadsElements limit b body g s v es
    → (u : State) × (q : Redirect) × (fs : List Element) × ReadsRedirect limit b body s u q × ReadsElements limit b body (redirected g) u v fs
unfolding is_redirection
elements_redirect {b = b} {g = g} {s = s} is (r.no_element h) = absurd (true≢false (sym (redirection_is_simple (lead_of b g s) is) ∙ h))
elements_redirect is (r.assigned_element h w e) = absurd (apart is_redirection h is refl)
elements_redirect is (r.word_element h w e) = absurd (apart is_redirection h is refl)
elements_redirect is (r.redirect_element {u = u} {r = q} {es = fs} h read e) = (u, q, fs, read, e)

pub redirects_end : {limit : ℕ} {b : List ℕ} {body : ℕ → Document} {s v : State} {qs : List Redirect} → is_redirection (lead_of b (Named false) s) ≡ false
    → ReadsRedirects limit b body s v qs → (v ≡ s) × (qs ≡ [])
redirects_end none (r.no_redirect h) = (refl, refl)
redirects_end none (r.more_redirects h q l) = absurd (true≢false (sym h ∙ none))

pub redirects_first : {limit : ℕ} {b : List ℕ} {body : ℕ → Document} {s v : State} {qs : List Redirect} → is_redirection (lead_of b (Named false) s) ≡ true
    → ReadsRedirects limit b body s v qs
    → (u : State) × (q : Redirect) × (others : List Redirect) × (qs ≡ q ∷ others) × ReadsRedirect limit b body s u q × ReadsRedirects limit b body u v others
redirects_first some (r.no_redirect h) = absurd (true≢false (sym some ∙ h))
redirects_first some (r.more_redirects {u = u} {r = q} {rs = others} h read l) = (u, q, others, refl, read, l)

pub some_one : {A : Type 0} {x y : A} → Some x ≡ Some y → x ≡ y
some_one {x = x} {y = y} = same_Some x y

pub redirect_file : {limit : ℕ} {b : List ℕ} {body : ℕ → Document} {s v : State} {q : Redirect} (at : Redirection) → redirection b s.spot.at ≡ Some at
    → strip_of at.operator ≡ None → ReadsRedirect limit b body s v q
    → (u : Spot) × (w : Word) × (v ≡ past b u s) × ReadsWord limit b (in_unsplit (next b at.end s).spot.at) (facing (next b at.end s)) u w
redirect_file {limit = limit} {b = b} {s = s} at is file (r.file {u = u} {r = f} {w = w} h d l read) =
    let same : f ≡ at = some_one (sym h ∙ is) in
    (u, w, refl, subst (λ o. ReadsWord limit b (in_unsplit (next b o.end s).spot.at) (facing (next b o.end s)) u w) same read)
redirect_file at is file (r.here_document {r = f} {strip = strip} h d l read k) =
    let same : f ≡ at = some_one (sym h ∙ is) in
    let e : Some strip ≡ None = sym d ∙ ap (λ o. strip_of o.operator) same ∙ file in
    cc

-- what is remembered of a here-document with this delimiter
abbrev pub mark_of : List ℕ → Bool → Word → ℕ → Mark
mark_of b strip w depth = record { strip = strip; quoted = is_quoted_word w; delimiter = delimiter_of b w; depth = depth }

pub redirect_document : {limit : ℕ} {b : List ℕ} {body : ℕ → Document} {s v : State} {q : Redirect} (at : Redirection) (strip : Bool) → redirection b s.spot.at ≡ Some at
    → strip_of at.operator ≡ Some strip → direction_of at.operator ≡ None → ReadsRedirect limit b body s v q
    → (u : Spot) × (w : Word) × (v ≡ with_mark (mark_of b strip w s.spot.depth) (past b u s))
    × ReadsWord limit b (in_unsplit (next b at.end s).spot.at) (facing (next b at.end s)) u w
redirect_document at strip is stripped document (r.file {r = f} {d = d} h o l read) =
    let same : f ≡ at = some_one (sym h ∙ is) in
    let e : Some d ≡ None = sym o ∙ ap (λ p. direction_of p.operator) same ∙ document in
    cc
redirect_document {limit = limit} {b = b} {s = s} at strip is stripped document (r.here_document {u = u} {r = f} {strip = found} {w = w} h d l read k) =
    let same : f ≡ at = some_one (sym h ∙ is) in
    let strips : found ≡ strip = some_one (sym d ∙ ap (λ o. strip_of o.operator) same ∙ stripped) in
    let word_read = subst (λ o. ReadsWord limit b (in_unsplit (next b o.end s).spot.at) (facing (next b o.end s)) u w) same read in
    (u, w, ap (λ v. with_mark (mark_of b v w s.spot.depth) (past b u s)) strips, word_read)

-- a command that is one word of plain bytes, up to e
pub bare_command_ends : {limit : ℕ} {b : List ℕ} {body : ℕ → Document} {s v : State} {c : Command} (e : ℕ) → lead_here b s ≡ lead.Word
    → sign_at b (in_word s.spot.at) 0 (facing (begun s)) ≡ sign.Plain → after b (in_word s.spot.at) 0 (facing (begun s)) ≡ e
    → sign_at b (in_word s.spot.at) (prior_of b sign.Plain e) (to e (facing (begun s))) ≡ sign.Stop
    → after b (in_word s.spot.at) (prior_of b sign.Plain e) (to e (facing (begun s))) ≡ e
    → begins_simple (lead_of b (stage_behind b First s.spot.at) (past b (to e (facing (begun s))) (begun s))) ≡ false → ReadsCommand limit b body s v c
    → v ≡ closing false (past b (to e (facing (begun s))) (begun s))
unfolding begins_simple in_stage
bare_command_ends {limit = limit} {b = b} {body = body} {s = s} e is plain so stops there none h =
    let x = in_word s.spot.at in
    let at = facing (begun s) in
    let c = simple_is (ap begins_simple is) h in
    let w = elements_word is c.3 in
    let stop : sign_at b x (prior_of b sign.Plain (after b x 0 at)) (to (after b x 0 at) at) ≡ sign.Stop =
    ap (λ i. sign_at b x (prior_of b sign.Plain i) (to i at)) so ∙ stops in
    let end : w.0 ≡ to e at = bare_word_ends plain stop w.3 ∙ ap (λ i. to (after b x (prior_of b sign.Plain i) (to i at)) at) so ∙ ap (λ i. to i at) there in
    let rest = subst (λ u. ReadsElements limit b body (stage_behind b First s.spot.at) (past b u (begun s)) c.0 w.2) end w.4 in
    c.2 ∙ ap (closing false) (elements_end none rest)

-- a script that begins with a word
pub opening_word : {limit : ℕ} {b : List ℕ} {s u : Spot} {t : Script} → lead_here b (within s) ≡ lead.Word → ReadsScript limit b s u t
    → (v : Spot) × (w : Word) × ReadsWord limit b (in_word s.at) (facing (begun (within s))) v w
unfolding begins_pipeline begins_command begins_simple in_stage
opening_word is h =
    let q = script_is h in
    let i = sequence_items (ap is_newline_lead is) (ap begins_pipeline is) q.3 in
    let f = items_first (ap begins_command is) i.1 in
    let c = simple_is (ap begins_simple is) f.2 in
    let e = elements_word is c.3 in
    (e.0, e.1, e.3)

redirection_begins : (l : Lead) → is_redirection l ≡ true → (is_newline_lead l ≡ false) × (begins_pipeline l ≡ true) × (begins_command l ≡ true) × (begins_simple l ≡ true)
unfolding begins_pipeline begins_command begins_simple is_redirection
redirection_begins lead.Number h = (refl, refl, refl, refl)
redirection_begins (lead.Operator o) h = rw h (refl, refl, refl, refl)
redirection_begins _ h = absurd (true≢false (sym h))

module _ (limit : ℕ) (b : List ℕ) (s : Spot) where
  -- where a script at s goes on that begins with the operator of a here-document and its delimiter,
  -- up to a token at i
  abbrev pub Awaiting : Bool → Word → ℕ → State
  Awaiting strip w i = with_mark (mark_of b strip w s.depth) (record (begun (within s)) { spot = to i (begun (within s)).spot })

  -- the delimiter is w, and the token after it is at i
  abbrev pub Delimits : Redirection → Word → ℕ → Type 0
  Delimits at w i =
      (u : Spot) (y : Word) → ReadsWord limit b (in_unsplit (next b at.end (begun (within s))).spot.at) (facing (next b at.end (begun (within s)))) u y
      → (past b u (begun (within s)) ≡ record (begun (within s)) { spot = to i (begun (within s)).spot }) × (y ≡ w)

  -- what such a script goes on with, and what follows its first command if that is the only one of
  -- its and-or list
  abbrev pub GoesOn : State → State → Type 0
  GoesOn from v =
      (body : ℕ → Document) × (u : State) × (es : List Element) × ReadsElements limit b body Prefixed from u es
      × (is_bar (lead_here b (closing false u)) ≡ false → link_of (lead_here b (closing false u)) ≡ None → Follows limit b body (closing false u) v)

-- a script that begins with a redirection
pub opening_redirect : {limit : ℕ} {b : List ℕ} {s v : Spot} {t : Script} → is_redirection (lead_here b (within s)) ≡ true → ReadsScript limit b s v t
    → (body : ℕ → Document) × (end u w : State) × (q : Redirect) × (es : List Element) × ReadsRedirect limit b body (begun (within s)) u q
    × ReadsElements limit b body Prefixed u w es
    × (is_bar (lead_here b (closing false w)) ≡ false → link_of (lead_here b (closing false w)) ≡ None → Follows limit b body (closing false w) end)
opening_redirect {limit = limit} {b = b} {s = s} is h =
    let begins = redirection_begins (lead_here b (within s)) is in
    let q = script_is h in
    let body : ℕ → Document = nth q.0.bodies in
    let items = sequence_items begins.0 begins.1 q.3 in
    let f = items_first begins.2 items.1 in
    let c = simple_is begins.3 f.2 in
    let e = elements_redirect is c.3 in (
      body,
      q.0,
      e.0,
      c.0,
      e.1,
      e.2,
      e.3,
      e.4,
      subst (λ w. is_bar (lead_here b w) ≡ false → link_of (lead_here b w) ≡ None → Follows limit b body w q.0) c.2 f.3,
    )

-- a script that begins with the operator of a here-document and its delimiter
pub opening_operator : {limit : ℕ} {b : List ℕ} {s v : Spot} {t : Script} (at : Redirection) (strip : Bool) (i : ℕ) (w : Word) → is_redirection (lead_here b (within s)) ≡ true
    → redirection b s.at ≡ Some at → strip_of at.operator ≡ Some strip → direction_of at.operator ≡ None → Delimits limit b s at w i → ReadsScript limit b s v t
    → (end : State) × GoesOn limit b s (Awaiting limit b s strip w i) end
opening_operator {limit = limit} {b = b} {s = s} at strip i w is operator stripped document only h =
    let o = opening_redirect is h in
    let d = redirect_document at strip operator stripped document o.6 in
    let e = only d.0 d.1 d.3 in
    let behind : o.2 ≡ Awaiting limit b s strip w i = d.2 ∙ ap (λ u. with_mark (mark_of b strip d.1 s.depth) u) e.0
    ∙ ap (λ y. with_mark (mark_of b strip y s.depth) (record (begun (within s)) { spot = to i (begun (within s)).spot })) e.1 in
    (o.1, (o.0, o.3, o.5, subst (λ u. ReadsElements limit b o.0 Prefixed u o.3 o.5) behind o.7, o.8))

-- a script that begins with the operator of a here-document, its delimiter and a newline
pub opening_document : {limit : ℕ} {b : List ℕ} {s v : Spot} {t : Script} (at : Redirection) (strip : Bool) (i : ℕ) (w : Word) → is_redirection (lead_here b (within s)) ≡ true
    → redirection b s.at ≡ Some at → strip_of at.operator ≡ Some strip → direction_of at.operator ≡ None → Delimits limit b s at w i
    → lead_at b Prefixed i ≡ lead.Newline → lead_at b First i ≡ lead.Newline → ReadsScript limit b s v t
    → (u : State) × ReadsDocuments limit b (mark_of b strip w s.depth ∷ []) (on_line (i + 1) (begun (within s))) u
unfolding begins_simple is_redirection separator link_of
opening_document {limit = limit} {b = b} {s = s} at strip i w is operator stripped document only line line' h =
    let o = opening_operator at strip i w is operator stripped document only h in
    let waiting : State = Awaiting limit b s strip w i in
    let goes = o.1 in
    let command : closing false goes.1 ≡ waiting = ap (closing false) (elements_end (ap begins_simple line) goes.3) in
    let here : lead_here b (closing false goes.1) ≡ lead.Newline = ap (λ u. lead_here b u) command ∙ line' in
    let follows = goes.4 (ap is_bar here) (ap link_of here) in
    let parting = items_parted limit b goes.0 (closing false goes.1) o.0 false (ap separator here) follows in
    let same : parted b waiting ≡ waiting = rw line' refl in
    let breaks = subst (λ u. ReadsBreaks limit b u parting.0) (ap (parted b) command ∙ same) parting.1 in
    let documents = some_breaks {u = parting.0} (ap is_newline_lead line') breaks in
    (documents.0, documents.2)
