-- IFS stays steady where the rules require it: the values that assignments and declarations give
-- it, and what an expansion sets.
use Rattle.std.proofs.Common.{◌≡◌, ℕ, ◌+◌, Bool, true, false, not, ◌||◌, if◌then◌else◌, Option, Some, None, unwrap_or, option_map, List, [], ◌∷◌, ◌++◌, take, drop, refl, sym, ap₂, subst, ◌∙◌}
use Rattle.std.proofs.lemmas.Bool.{false≢true, true≢false}
use Rattle.std.proofs.lemmas.Option.{same_Some, none-some}
use Rattle.sh_tree.specs.standard.language.Bytes.{name_length}
use Rattle.sh_tree.specs.standard.language.Commands.{is_assignment}
use Rattle.sh_tree.specs.standard.program.Syntax as p
use Rattle.sh_tree.specs.standard.program.Syntax.{Text}
use Rattle.sh_tree.specs.standard.program.Words.{part_text, word_text, static_of, before_word, assignment_in}
use Rattle.sh_runs.specs.Quoting.{is_ifs, is_steady}
use Rattle.sh_runs.specs.standard.runs.Environment.{Frame}
use Rattle.sh_runs.specs.standard.runs.Expansion.{Literal, Piece, Bytes, in_one, piece_text, pieces_text, Outcome, gives, followed, expand_part, expand}
use Rattle.sh_runs.specs.standard.runs.Operands.{definition_in}
use Rattle.sh_runs.specs.standard.runs.States.{State}
use Rattle.sh_runs.proofs.StaticLemmas.{Joins, joined_some, unless}
use Rattle.sh_runs.proofs.TextLemmas.{word_writes, Assigns, assignment_front}
use Rattle.sh_quote.specs.Steady.{steady_value, steady_assignment, steady_definition, steady_field}

-- Values

static_text : (w : p.Word) (t : Text) → static_of w ≡ Some t → word_text w ≡ Some t
unfolding static_of
static_text w t h = (unless _ (word_text w) t h).1

-- a value that is steady is a steady text
pub value_steady : (w : p.Word) → steady_value w ≡ true → (f : Frame) (status : ℕ) (s : State) → s.ended ≡ false → is_steady (Some (pieces_text (expand f status in_one w s).pieces)) ≡ true
unfolding steady_value
value_steady w h f status s l = go (static_of w) refl h
  where
    go : (v : Option Text) → static_of w ≡ v → unwrap_or (option_map (λ t. is_steady (Some t)) v) false ≡ true → is_steady (Some (pieces_text (expand f status in_one w s).pieces)) ≡ true
    go None e k = absurd (false≢true k)
    go (Some t) e k = subst (λ u. is_steady (Some u) ≡ true) (sym (word_writes f status in_one w t s (static_text w t e) l).text) k

pub either_or : (b c : Bool) → (not b || c) ≡ true → b ≡ true → c ≡ true
either_or true c h e = h
either_or false c h e = absurd (false≢true e)

or_either : (b c : Bool) → (b ≡ true → c ≡ true) → (not b || c) ≡ true
or_either true c h = h refl
or_either false c h = refl

-- an assignment to IFS gives it a steady value
pub assignment_steady : (x : Text × p.Word) → steady_assignment x ≡ true → is_ifs x.0 ≡ true → (f : Frame) (status : ℕ) (s : State) → s.ended ≡ false
    → is_steady (Some (pieces_text (expand f status in_one x.1 s).pieces)) ≡ true
unfolding steady_assignment
assignment_steady x h e f status s l = value_steady x.1 (either_or (is_ifs x.0) (steady_value x.1) h e) f status s l

-- Fields of `export` and `readonly`

-- plain bytes before a word are before its text
text_before : (v : Text) (w : p.Word) (u r : Text) → word_text (before_word v w) ≡ Some u → ((x : Text) → word_text w ≡ Some x → r ≡ x) → v ++ r ≡ u
unfolding before_word part_text
text_before [] w u r h write = write u h
text_before (c ∷ cs) w u r h write =
    let parts : Joins (Some (c ∷ cs)) (word_text w) u = joined_some (Some (c ∷ cs)) (word_text w) u h in
    ap₂ (λ a b. a ++ b) (same_Some (c ∷ cs) parts.0 parts.2) (write parts.1 parts.3) ∙ parts.4

joined_steady : (v : Text) (w : p.Word) (r : Text) → ((x : Text) → word_text w ≡ Some x → r ≡ x) → steady_value (before_word v w) ≡ true → is_steady (Some (v ++ r)) ≡ true
unfolding steady_value
joined_steady v w r write h = go (static_of (before_word v w)) refl h
  where
    go : (s : Option Text) → static_of (before_word v w) ≡ s → unwrap_or (option_map (λ t. is_steady (Some t)) s) false ≡ true → is_steady (Some (v ++ r)) ≡ true
    go None e k = absurd (false≢true k)
    go (Some u) e k = subst (λ x. is_steady (Some x) ≡ true) (sym (text_before v w u r (static_text (before_word v w) u e) write)) k

-- a field that an assignment in form writes, with the text of what is after the front
written_steady : (t : Text) (w : p.Word) (r : Text) → is_assignment t ≡ true → ((x : Text) → word_text w ≡ Some x → r ≡ x)
    → steady_assignment (take (name_length t) t, before_word (drop (name_length t + 1) t) w) ≡ true → steady_field (t ++ r) ≡ true
unfolding steady_assignment steady_definition definition_in
written_steady t w r a write h =
    let f : Assigns t r = assignment_front t r a in
    rw (f.still, f.name, f.value)
    (or_either (is_ifs (take (name_length t) t)) (is_steady (Some (drop (name_length t + 1) t ++ r)))
    (λ e. joined_steady (drop (name_length t + 1) t) w r write (either_or (is_ifs (take (name_length t) t)) (steady_value (before_word (drop (name_length t + 1) t) w)) h e)))

is_form : (b : Bool) (x y : Text × p.Word) → (if b then Some x else None) ≡ Some y → (b ≡ true) × (x ≡ y)
is_form true x y h = (refl, same_Some x y h)
is_form false x y h = absurd (none-some y h)

behind_text : (t : Text) (ps : List Piece) (u : State) (q : Outcome) (x : Bool) → x ≡ false
    → pieces_text (if x then gives ps u else gives (Bytes Literal t ∷ q.pieces) q.state).pieces ≡ t ++ pieces_text q.pieces
unfolding piece_text
behind_text t ps u q true e = absurd (true≢false e)
behind_text t ps u q false e = refl

-- the field of an operand that is an assignment in form, as a declaration utility expands it
pub declared_steady : (w : p.Word) (x : Text × p.Word) → assignment_in w ≡ Some x → steady_assignment x ≡ true → (f : Frame) (status : ℕ) (s : State) → s.ended ≡ false
    → steady_field (pieces_text (expand f status in_one w s).pieces) ≡ true
unfolding assignment_in expand expand_part followed piece_text
declared_steady (p.more_parts (p.Plain t) w) x e h f status s l =
    let form = is_form (is_assignment t) (take (name_length t) t, before_word (drop (name_length t + 1) t) w) x e in
    subst (λ v. steady_field v ≡ true) (sym (behind_text t (Bytes Literal t ∷ []) s (expand f status in_one w s) s.ended l))
    (written_steady t w (pieces_text (expand f status in_one w s).pieces) form.0 (λ u q. (word_writes f status in_one w u s q l).text)
    (subst (λ y. steady_assignment y ≡ true) (sym form.1) h))
declared_steady (p.more_parts x w) y e h f status s l = absurd (none-some y e)
declared_steady p.no_parts y e h f status s l = absurd (none-some y e)
