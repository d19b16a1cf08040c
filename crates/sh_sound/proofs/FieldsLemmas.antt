-- What the words of a simple command give as fields.
use Rattle.std.proofs.Common.{◌≡◌, ℕ, ◌+◌, ◌≤◌, Bool, true, false, not, ◌&&◌, ◌||◌, if◌then◌else◌, Option, Some, None, is_some, List, [], ◌∷◌, ◌++◌, length, take, drop, append_assoc, refl, sym, ap, ◌∙◌, subst, arith, length-append, ◌*◌}
use Rattle.std.specs.List.{list_all}
use Rattle.std.proofs.lemmas.Bool.{and_parts, and_from, false≢true}
use Rattle.std.proofs.lemmas.List.Folds.{list_all-append}
use Rattle.std.proofs.lemmas.Option.{same_Some, none-some}
use Rattle.sh_tree.specs.standard.language.Bytes.{name_length}
use Rattle.sh_tree.specs.standard.language.Commands.{is_assignment}
use Rattle.sh_tree.specs.standard.program.Syntax as p
use Rattle.sh_tree.specs.standard.program.Syntax.{Text}
use Rattle.sh_tree.specs.standard.program.Words.{operands_in, static_of, assignment_in, before_word, words_in, word_text}
use Rattle.sh_runs.specs.Counts.{Count, Parameters, One, Nothing, count_of, least_fields, some_gives_field}
use Rattle.sh_runs.specs.standard.Kinds.{kind_of, is_declaration}
use Rattle.sh_runs.specs.standard.runs.Answers.{Answer}
use Rattle.sh_runs.specs.standard.runs.Environment.{Environment, Frame, separators}
use Rattle.sh_runs.specs.standard.runs.Expansion.{Literal, Piece, Bytes, in_fields, in_one, Outcome, gives, piece_text, pieces_text, expand, expand_part, followed}
use Rattle.sh_runs.specs.standard.runs.Fields.{splits}
use Rattle.sh_runs.specs.standard.runs.Operands.{definition_in}
use Rattle.sh_runs.specs.standard.runs.States.{State, fresh}
use Rattle.sh_runs.specs.standard.runs.Steps.{word_fields, word_splits}
use Rattle.sh_runs.proofs.OperandLemmas.{operands_count}
use Rattle.sh_runs.proofs.StaticLemmas.{static_fields, unless}
use Rattle.sh_runs.proofs.TextLemmas.{Assigns, assignment_front}
use Rattle.sh_domain.specs.Inclusions.{field_formed, elements_formed, word_formed, redirect_formed}
use Rattle.sh_tree.specs.standard.language.Bytes.{is_name}
use Rattle.sh_domain.specs.Operands.{Total, total}
use Rattle.sh_domain.specs.Views.{counted_by}
use Rattle.std.proofs.Math.Nat.{add-mul}
use Rattle.sh_sound.specs.Fields.{least, Split, Operand, Fields, FieldsFit}

-- Counts

least_is : (f : Frame) (k : Count) → least_fields f k ≡ least (length f) k
unfolding least least_fields
least_is f Parameters = refl
least_is f One = refl
least_is f Nothing = refl

least_less : (m n : ℕ) (k : Count) → m ≤ n → least m k ≤ least n k
unfolding least
least_less m n Parameters h = h
least_less m n One h = omega arith
least_less m n Nothing h = omega arith

operand_less : (b : Bool) (m n : ℕ) (w : p.Word) (ts : List Text) → m ≤ n → Operand b n w ts → Operand b m w ts
unfolding Operand
operand_less true m n w ts h k = k
operand_less false m n w ts h k = record { static = k.static; counted = omega (arith, least_less m n (count_of w) h, k.counted) }

fields_less : (b : Bool) (m n : ℕ) (ws : List p.Word) (ts : List Text) → m ≤ n → Fields b n ws ts → Fields b m ws ts
unfolding Fields
fields_less b m n [] ts h k = k
fields_less b m n (w ∷ ws) ts h k = (k.0, k.1, k.2, operand_less b m n w k.0 h k.3, fields_less b m n ws k.1 h k.4)

-- where there are more parameters than are counted
pub fit_less : (m n : ℕ) (es : p.Elements) (left : List p.Word) (ts : List Text) → m ≤ n → FieldsFit n es left ts → FieldsFit m es left ts
unfolding FieldsFit
fit_less m n es left [] h k = k
fit_less m n es left (t ∷ ts) h k = record { word = k.word; done = k.done; words = k.words; static = k.static; given = fields_less _ m n k.done ts h k.given }

-- One more word

fields_more : (b : Bool) (m : ℕ) (ws : List p.Word) (w : p.Word) (ts us : List Text) → Fields b m ws ts → Operand b m w us → Fields b m (ws ++ w ∷ []) (ts ++ us)
unfolding Fields
fields_more b m [] w ts us h k = (us, [], ap (λ vs. vs ++ us) h ∙ end us, k, refl)
  where
    end : (us : List Text) → us ≡ us ++ []
    end [] = refl
    end (u ∷ us) = ap (λ vs. u ∷ vs) (end us)
fields_more b m (v ∷ ws) w ts us h k =
    (h.0, h.1 ++ us, ap (λ vs. vs ++ us) h.2 ∙ append_assoc h.0 h.1 us, h.3, fields_more b m ws w h.1 us h.4 k)

-- the name
pub name_fits : (m : ℕ) (es : p.Elements) (w : p.Word) (left : List p.Word) (t : Text) → static_of w ≡ Some t → FieldsFit m es (w ∷ left) [] → FieldsFit m es left (t ∷ [])
unfolding FieldsFit Fields
name_fits m es w left t s h = record { word = w; done = []; words = h; static = s; given = refl }

-- an operand
pub operand_fits : (m : ℕ) (es : p.Elements) (w : p.Word) (left : List p.Word) (t : Text) (ts us : List Text) → Operand (is_declaration (kind_of t)) m w us → FieldsFit m es (w ∷ left) (t ∷ ts)
    → FieldsFit m es left ((t ∷ ts) ++ us)
unfolding FieldsFit
operand_fits m es w left t ts us k h = record {
  word = h.word;
  done = h.done ++ w ∷ [];
  words = h.words ∙ ap (λ ws. h.word ∷ ws) (sym (append_assoc h.done (w ∷ []) left));
  static = h.static;
  given = fields_more _ m h.done w ts us h.given k;
}

-- What a word gives

static_text : (w : p.Word) (t : Text) → static_of w ≡ Some t → word_text w ≡ Some t
unfolding static_of
static_text w t h = (unless _ (word_text w) t h).1

-- a word that is read gives a field if it is static
static_gives : (w : p.Word) (t : Text) → field_formed w ≡ true → static_of w ≡ Some t → some_gives_field w ≡ true
static_gives w t h s =
    let k = (and_parts (word_formed w) (not (is_some (word_text w)) || some_gives_field w) h).1 in
    subst (λ (v : Option Text). (not (is_some v) || some_gives_field w) ≡ true) (static_text w t s) k

module _ (f : Frame) (status : ℕ) (a : Answer) (e : Environment) where
  -- a static word is its text
  pub static_one : (w : p.Word) (t : Text) → field_formed w ≡ true → static_of w ≡ Some t → word_fields in_fields a (expand f status in_fields w (fresh e a.given)) ≡ t ∷ []
  unfolding word_fields
  static_one w t h s = static_fields w t s (static_gives w t h s) _ a.directory f status (fresh e a.given) refl

  -- a word whose fields are split, without a Split event
  split_gives : (w : p.Word) → field_formed w ≡ true → let o = expand f status in_fields w (fresh e a.given) in
      o.state.ended ≡ false → splits (separators o.state.environment) o.pieces ≡ false → Split (length f) w (word_fields in_fields a o)
  unfolding word_fields
  split_gives w h l k = record {
    static = λ t s. static_one w t h s;
    counted = subst (λ n. n ≤ length (word_fields in_fields a (expand f status in_fields w (fresh e a.given)))) (least_is f (count_of w)) (operands_count f status w (fresh e a.given) a.directory l k);
  }

pub is_form : (b : Bool) (x y : Text × p.Word) → (if b then Some x else None) ≡ Some y → (b ≡ true) × (x ≡ y)
is_form true x y h = (refl, same_Some x y h)
is_form false x y h = absurd (none-some y h)

behind_text : (t : Text) (ps : List Piece) (u : State) (q : Outcome) (x : Bool) → x ≡ false
    → pieces_text (if x then gives ps u else gives (Bytes Literal t ∷ q.pieces) q.state).pieces ≡ t ++ pieces_text q.pieces
unfolding piece_text
behind_text t ps u q true e = absurd (false≢true (sym e))
behind_text t ps u q false e = refl

abbrev Defines : Text → Text → Type 0
Defines name t = (v : Text) × (definition_in t ≡ Some (name, v))

written_defines : (t r : Text) → is_assignment t ≡ true → Defines (take (name_length t) t) (t ++ r)
unfolding definition_in
written_defines t r h = let f : Assigns t r = assignment_front t r h in (drop (name_length t + 1) t ++ r, rw (f.still, f.name, f.value) refl)

-- an assignment in form that is one field gives its name a value
declared_defines : (w : p.Word) (x : Text × p.Word) → assignment_in w ≡ Some x → (f : Frame) (status : ℕ) (s : State) → s.ended ≡ false
    → Defines x.0 (pieces_text (expand f status in_one w s).pieces)
unfolding assignment_in expand expand_part followed piece_text
declared_defines (p.more_parts (p.Plain t) w) x e f status s l =
    let form = is_form (is_assignment t) (take (name_length t) t, before_word (drop (name_length t + 1) t) w) x e in
    subst (Defines x.0) (sym (behind_text t (Bytes Literal t ∷ []) s (expand f status in_one w s) s.ended l))
    (subst (λ (y : Text × p.Word). Defines y.0 (t ++ pieces_text (expand f status in_one w s).pieces)) form.1 (written_defines t (pieces_text (expand f status in_one w s).pieces) form.0))
declared_defines (p.more_parts x w) y e f status s l = absurd (none-some y e)
declared_defines p.no_parts y e f status s l = absurd (none-some y e)

-- the fields of an operand of a command, of a declaration utility or not
module _ (f : Frame) (status : ℕ) (a : Answer) (e : Environment) (w : p.Word) (formed : field_formed w ≡ true) where
  abbrev Gives : Bool → Bool → Type 0
  Gives b assigns =
      let k = if b && assigns then in_one else in_fields in
      let o = expand f status k w (fresh e a.given) in
      o.state.ended ≡ false → word_splits k o ≡ false → Operand b (length f) w (word_fields k a o)

  no_split : (l : Bool) (x : Bool) → l ≡ false → (true && not l && x) ≡ false → x ≡ false
  no_split l x h k = subst (λ l. (true && not l && x) ≡ false) h k

  declares_gives : (v : Option (Text × p.Word)) → assignment_in w ≡ v → Gives true (is_some v)
  unfolding Operand word_fields
  declares_gives (Some x) q l k = record {
    assigned = λ y h.
        let d = declared_defines w y h f status (fresh e a.given) refl in
        (pieces_text (expand f status in_one w (fresh e a.given)).pieces, d.0, refl, d.1);
  }
  declares_gives None q l k = record { assigned = λ y h. absurd (none-some y (sym q ∙ h)) }

  pub operand_gives : (b : Bool) → Gives b (is_some (assignment_in w))
  unfolding Operand word_splits
  operand_gives true l k = declares_gives (assignment_in w) refl l k
  operand_gives false l k =
      let o = expand f status in_fields w (fresh e a.given) in
      split_gives f status a e w formed l (no_split o.state.ended (splits (separators o.state.environment) o.pieces) l k)

-- Each word of a command that is read is formed
pub operands_formed : (es : p.Elements) → elements_formed es ≡ true → list_all field_formed (words_in (operands_in es)) ≡ true
unfolding elements_formed operands_in words_in
operands_formed p.no_elements h = refl
operands_formed (p.assignment name value es) h = operands_formed es (and_parts (is_name name && word_formed value) (elements_formed es) h).1
operands_formed (p.operand w es) h = let q = and_parts (field_formed w) (elements_formed es) h in and_from (field_formed w) _ q.0 (operands_formed es q.1)
operands_formed (p.redirection r es) h = operands_formed es (and_parts (redirect_formed r) (elements_formed es) h).1

pub left_formed : (m : ℕ) (es : p.Elements) (w : p.Word) (left : List p.Word) (ts : List Text) → elements_formed es ≡ true → FieldsFit m es (w ∷ left) ts → field_formed w ≡ true
unfolding FieldsFit
left_formed m es w left [] h k =
    (and_parts (field_formed w) (list_all field_formed left) (subst (λ ws. list_all field_formed ws ≡ true) k (operands_formed es h))).0
left_formed m es w left (t ∷ ts) h k =
    let all : list_all field_formed (k.word ∷ (k.done ++ w ∷ left)) ≡ true = subst (λ ws. list_all field_formed ws ≡ true) k.words (operands_formed es h) in
    let behind = (and_parts (field_formed k.word) (list_all field_formed (k.done ++ w ∷ left)) all).1 in
    let joined : (list_all field_formed k.done && list_all field_formed (w ∷ left)) ≡ true = sym (list_all-append field_formed k.done (w ∷ left)) ∙ behind in
    (and_parts (field_formed w) (list_all field_formed left) (and_parts (list_all field_formed k.done) (list_all field_formed (w ∷ left)) joined).1).0

-- Operands are at least as many as the rules count

pub total_count : (m : ℕ) (ws : List p.Word) (ts : List Text) → Fields false m ws ts → (total ws).ones + (total ws).parameters * m ≤ length ts
unfolding Fields Operand total least
total_count m [] ts h = omega arith
total_count m (w ∷ ws) ts h = go (count_of w) refl (total_count m ws h.1 h.4)
  where
    n : Total
    n = total ws

    long : length ts ≡ length h.0 + length h.1
    long = ap length h.2 ∙ length-append h.0 h.1

    more : (k : Count) → count_of w ≡ k → least m k ≤ length h.0
    more k e = subst (λ k. least m k ≤ length h.0) e h.3.counted

    go : (k : Count) → count_of w ≡ k → n.ones + n.parameters * m ≤ length h.1 → (total (w ∷ ws)).ones + (total (w ∷ ws)).parameters * m ≤ length ts
    go Parameters e rest = let some : m ≤ length h.0 = more Parameters e in rw (e, add-mul n.parameters 1 m) (omega (arith, rest, long, some))
    go One e rest = let some : 1 ≤ length h.0 = more One e in rw e (omega (arith, rest, long, some))
    go Nothing e rest = rw e (omega (arith, rest, long))

pub counted_fits : (m : ℕ) (ws : List p.Word) (ts : List Text) → Fields false m ws ts → counted_by (total ws) m ≤ length ts
counted_fits m ws ts h = omega (arith, total_count m ws ts h)
