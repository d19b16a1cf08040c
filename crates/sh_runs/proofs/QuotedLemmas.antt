-- What quotes hold: pieces that stay as they are, and breaks where `$@` makes them.
use Rattle.std.proofs.Common.{◌≡◌, ℕ, Bool, true, false, not, ◌&&◌, ◌||◌, Option, Some, None, codes, List, [], ◌∷◌, ◌++◌, refl, sym, ◌∙◌}
use Rattle.std.specs.List.{list_all}
use Rattle.std.proofs.lemmas.Bool.{and_parts, and_from, or_parts, cond_both, false≢true}
use Rattle.std.proofs.lemmas.List.Folds.{list_all-append}
use Rattle.sh_tree.specs.declared.tree.Action.{Action}
use Rattle.sh_tree.specs.declared.tree.Action.TheVariants as action
use Rattle.sh_tree.specs.declared.tree.Special.TheVariants as special
use Rattle.sh_tree.specs.standard.program.Syntax.{Text, Parameter, Variable, Special, Part, Plain, Escaped, Single, Double, Expansion, Arithmetic, Substitution, Tilde, Joined, Word, no_parts, more_parts, Operator, Value, Length, Use, Remove}
use Rattle.sh_runs.specs.Quoting.{is_quotation, are_quotations, part_mentions, word_mentions, operator_mentions, is_at}
use Rattle.sh_runs.specs.standard.runs.Answers.{Given}
use Rattle.sh_runs.specs.standard.runs.Environment.{Frame}
use Rattle.sh_runs.specs.standard.runs.Expansion.{Quoted, Piece, Bytes, Break, Context, in_quotes, in_one, value_origin, quote_pieces, has_every, broken, star_pieces, at_pieces, Outcome, gives, followed, value_of, needed, value_pieces, default_assigned, used, tilde_pieces, computed_pieces, expand_part, expand, expand_operator, expand_inside}
use Rattle.sh_runs.specs.standard.runs.States.{State, taken}

-- quoted bytes; a break where those are counted too
unfoldable pub is_held : Bool → Piece → Bool
is_held breaks (Bytes Quoted t) = true
is_held breaks Break = breaks
is_held breaks _ = false

abbrev pub Held : Bool → List Piece → Type 0
Held breaks ps = list_all (is_held breaks) ps ≡ true

pub followed_all : (test : Piece → Bool) (o : Outcome) (next : State → Outcome) → list_all test o.pieces ≡ true → ((s : State) → list_all test (next s).pieces ≡ true)
    → list_all test (followed o next).pieces ≡ true
unfolding followed
followed_all test o next h k =
    cond_both o.state.ended o (gives (o.pieces ++ (next o.state).pieces) (next o.state).state) (λ (x : Outcome). list_all test x.pieces ≡ true)
    (λ b. h) (λ b. list_all-append test o.pieces (next o.state).pieces ∙ and_from (list_all test o.pieces) (list_all test (next o.state).pieces) h (k o.state))

-- one of two that are not both excluded
pub neither_part : (c a b : Bool) → (c && (a || b)) ≡ false → ((c && a) ≡ false) × ((c && b) ≡ false)
neither_part true a b h = or_parts a b h
neither_part false a b h = (refl, refl)

-- breaks count, or no `$@` is there
module _ (f : Frame) (status : ℕ) (breaks : Bool) where
  abbrev NoBreak : Bool → Type 0
  NoBreak mentions = (not breaks && mentions) ≡ false

  breaks_held : NoBreak true → breaks ≡ true
  breaks_held h = go breaks h
    where
      go : (b : Bool) → (not b && true) ≡ false → b ≡ true
      go true k = refl
      go false k = absurd (false≢true (sym k))

  broken_held : (ts : List Text) → breaks ≡ true → Held breaks (broken Quoted ts)
  unfolding broken is_held
  broken_held [] h = refl
  broken_held (t ∷ []) h = refl
  broken_held (t ∷ u ∷ ts) h = and_from breaks (list_all (is_held breaks) (broken Quoted (u ∷ ts))) h (broken_held (u ∷ ts) h)

  needed_held : (c : Context) (v : Option Text) (s : State) → Held breaks (needed f status (in_quotes c) v s).pieces
  unfolding needed value_origin is_held
  needed_held c None s = refl
  needed_held c (Some v) s = refl

  value_held : (c : Context) (p : Parameter) (v : Option Text) (s : State) → NoBreak (is_at p) → Held breaks (value_pieces f status (in_quotes c) p v s).pieces
  unfolding value_pieces at_pieces star_pieces value_origin is_held is_at
  value_held c (Special special.At) v s h = cond_both c.split _ _ (Held breaks) (λ b. broken_held f (breaks_held h)) (λ b. refl)
  value_held c (Special special.Asterisk) v s h = cond_both c.split _ _ (Held breaks) (λ b. refl) (λ b. refl)
  value_held c p v s h = needed_held c v s

  assigned_held : (c : Context) (p : Parameter) (t : Text) (fails : Bool) (s : State) → Held breaks (default_assigned f status (in_quotes c) p t fails s).pieces
  unfolding default_assigned value_origin is_held
  assigned_held c (Variable name) t false s = refl
  assigned_held c p t fails s = refl

  used_held : (c : Context) (p : Parameter) (g : Given) (x : Action) (v : Option Text) (set : Bool) (word text : State → Outcome) (s : State)
      → ((t : State) → Held breaks (word t).pieces) → Held breaks (used f status (in_quotes c) p g x v set word text s).pieces
  unfolding used
  used_held c p g action.Default v true word text s h = needed_held c v s
  used_held c p g action.Default v false word text s h = h s
  used_held c p g action.Assign v true word text s h = needed_held c v s
  used_held c p g action.Assign v false word text s h = followed_all (is_held breaks) (gives [] (text s).state) _ refl (assigned_held c p _ g.fails)
  used_held c p g action.Fault v true word text s h = needed_held c v s
  used_held c p g action.Fault v false word text s h = refl
  used_held c p g action.Alternative v true word text s h = h s
  used_held c p g action.Alternative v false word text s h = refl

  pub tilde_held : (login : Text) (g : Given) (s : State) → Held breaks (tilde_pieces f status login g s).pieces
  unfolding tilde_pieces is_held
  tilde_held [] g s = needed_held in_one (s.environment.variables (codes "HOME")) s
  tilde_held (c ∷ cs) g s = refl

  quotes_held : (b : Bool) → Held breaks (quote_pieces b)
  unfolding quote_pieces is_held
  quotes_held true = refl
  quotes_held false = refl

  mutual
    unfolding expand_part expand expand_operator computed_pieces value_origin is_held part_mentions word_mentions operator_mentions

    quoted_part_held : (c : Context) (x : Part) (s : State) → NoBreak (part_mentions is_at x) → Held breaks (expand_part f status (in_quotes c) x s).pieces
    quoted_part_held c (Plain t) s h = refl
    quoted_part_held c (Escaped t) s h = refl
    quoted_part_held c (Single style t) s h = refl
    quoted_part_held c (Double w) s h =
        followed_all (is_held breaks) (gives (quote_pieces (c.split && has_every w)) s) _ (quotes_held (c.split && has_every w)) (λ t. quoted_held c w t h)
    quoted_part_held c (Expansion at p operator) s h =
        quoted_operator_held c p operator (s.given 0) (value_of f status p s.environment (s.given 0)) (taken s) (neither_part (not breaks) (is_at p) (operator_mentions is_at operator) h)
    quoted_part_held c (Arithmetic at e) s h = followed_all (is_held breaks) (gives [] (expand_inside f status e s)) _ refl (λ t. refl)
    quoted_part_held c (Substitution at list) s h = refl
    quoted_part_held c (Tilde at login) s h = tilde_held login (s.given 0) (taken s)
    quoted_part_held c Joined s h = refl

    pub quoted_held : (c : Context) (w : Word) (s : State) → NoBreak (word_mentions is_at w) → Held breaks (expand f status (in_quotes c) w s).pieces
    quoted_held c no_parts s h = refl
    quoted_held c (more_parts x w) s h =
        let q = neither_part (not breaks) (part_mentions is_at x) (word_mentions is_at w) h in
        followed_all (is_held breaks) (expand_part f status (in_quotes c) x s) _ (quoted_part_held c x s q.0) (λ t. quoted_held c w t q.1)

    quoted_operator_held : (c : Context) (p : Parameter) (operator : Operator) (g : Given) (v : Option Text) (s : State)
        → NoBreak (is_at p) × NoBreak (operator_mentions is_at operator) → Held breaks (expand_operator f status (in_quotes c) p operator g v s).pieces
    quoted_operator_held c p Value g v s h = value_held c p v s h.0
    quoted_operator_held c p Length g None s h = refl
    quoted_operator_held c p Length g (Some v) s h = refl
    quoted_operator_held c p (Use x colon w) g v s h = used_held c p g x v _ _ _ s (λ t. quoted_held c w t h.1)
    quoted_operator_held c p (Remove removal w) g v s h =
        followed_all (is_held breaks) (gives [] (needed f status (in_quotes c) v s).state) _ refl
        (λ t. followed_all (is_held breaks) (gives [] (expand f status in_one w t).state) _ refl (λ u. refl))

  -- quotations outside quotes

  pub double_held : (c : Context) (w : Word) (s : State) → NoBreak (word_mentions is_at w) → Held breaks (expand_part f status c (Double w) s).pieces
  unfolding expand_part
  double_held c w s h = followed_all (is_held breaks) (gives (quote_pieces (c.split && has_every w)) s) _ (quotes_held (c.split && has_every w)) (λ t. quoted_held c w t h)

  quotation_held : (c : Context) (x : Part) (s : State) → is_quotation x ≡ true → NoBreak (part_mentions is_at x) → Held breaks (expand_part f status c x s).pieces
  unfolding expand_part is_quotation is_held part_mentions
  quotation_held c (Plain t) s h n = absurd (false≢true h)
  quotation_held c (Escaped t) s h n = refl
  quotation_held c (Single style t) s h n = refl
  quotation_held c (Double w) s h n = double_held c w s n
  quotation_held c (Expansion at p operator) s h n = absurd (false≢true h)
  quotation_held c (Arithmetic at e) s h n = absurd (false≢true h)
  quotation_held c (Substitution at list) s h n = absurd (false≢true h)
  quotation_held c (Tilde at login) s h n = absurd (false≢true h)
  quotation_held c Joined s h n = absurd (false≢true h)

  pub quotations_held : (c : Context) (w : Word) (s : State) → are_quotations w ≡ true → NoBreak (word_mentions is_at w) → Held breaks (expand f status c w s).pieces
  unfolding expand are_quotations word_mentions
  quotations_held c no_parts s h n = refl
  quotations_held c (more_parts x w) s h n =
      let q = and_parts (is_quotation x) (are_quotations w) h in
      let m = neither_part (not breaks) (part_mentions is_at x) (word_mentions is_at w) n in
      followed_all (is_held breaks) (expand_part f status c x s) _ (quotation_held c x s q.0 m.0) (λ t. quotations_held c w t q.1 m.1)
