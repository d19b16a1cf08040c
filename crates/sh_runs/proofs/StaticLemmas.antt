-- A word of static text is one field, which is that text.
use Rattle.std.proofs.Common.{◌≡◌, ℕ, Bool, true, false, not, ◌&&◌, ◌||◌, ◌==◌, if◌then◌else◌, Option, Some, None, unwrap_or, List, [], ◌∷◌, ◌++◌, map, length, flat_map, append_assoc, append-nil, true≢false, refl, sym, ap, subst, ◌∙◌}
use Rattle.std.specs.List.{list_any, list_all}
use Rattle.std.proofs.lemmas.List.Concat.{flat_map-append}
use Rattle.std.proofs.lemmas.List.Folds.{list_any-append, list_all-append}
use Rattle.std.proofs.lemmas.Option.{same_Some, none-some}
use Rattle.std.proofs.lemmas.Slice.Eq.{bytes_eq-Decides}
use Rattle.sh_tree.specs.standard.Words.{both_texts, is_wildcard}
use Rattle.sh_tree.specs.standard.program.Syntax as p
use Rattle.sh_tree.specs.standard.program.Words as words
use Rattle.sh_runs.specs.Counts.{gives_field, some_gives_field}
use Rattle.sh_runs.specs.standard.runs.Answers.{Marked, Directory}
use Rattle.sh_runs.specs.standard.runs.Environment.{Frame}
use Rattle.sh_runs.specs.standard.runs.States.{State}
use Rattle.sh_runs.specs.standard.runs.Expansion.{Piece, Bytes, Break, Literal, Quoted, Unquoted, piece_text, pieces_text, Context, in_fields, in_quotes, Outcome, gives, followed, is_every, has_every, quote_pieces, expand_part, expand}
use Rattle.sh_runs.specs.standard.runs.Fields.{Sign, stands, piece_signs, Before, Inside, scan, is_unquoted, is_bracket, is_pattern, field_text, field_names, fields}

-- Pieces that stay as they are

unfoldable pub is_standing : Piece → Bool
is_standing (Bytes Literal t) = true
is_standing (Bytes Quoted t) = true
is_standing _ = false

-- a piece that begins a field
unfoldable pub begins : Piece → Bool
begins (Bytes Quoted t) = true
begins (Bytes origin t) = not (length t == 0)
begins Break = false

abbrev pub mark : Bool → ℕ → Marked
mark quoted c = record { byte = c; quoted = quoted }

unfoldable pub marks_of : Piece → List Marked
marks_of (Bytes Quoted t) = map (mark true) t
marks_of (Bytes origin t) = map (mark false) t
marks_of Break = []

abbrev pub marks : List Piece → List Marked
marks ps = flat_map marks_of ps

scan_map : (quoted : Bool) (t : List ℕ) (field : List Marked) (xs : List Sign) → scan (Inside field) (map (stands quoted) t ++ xs) ≡ scan (Inside (field ++ map (mark quoted) t)) xs
unfolding scan
scan_map quoted [] field xs = ap (λ l. scan (Inside l) xs) (sym (append-nil field))
scan_map quoted (c ∷ cs) field xs =
    scan_map quoted cs (field ++ mark quoted c ∷ []) xs ∙ ap (λ l. scan (Inside l) xs) (append_assoc field (mark quoted c ∷ []) (map (mark quoted) cs))

module _ (separators : List ℕ) where
  scan_inside : (ps : List Piece) (field : List Marked) → list_all is_standing ps ≡ true
      → scan (Inside field) (flat_map (piece_signs separators) ps) ≡ (field ++ marks ps) ∷ []
  unfolding scan piece_signs is_standing marks_of
  scan_inside [] field h = ap (λ l. l ∷ []) (sym (append-nil field))
  scan_inside (Bytes Literal t ∷ ps) field h =
      scan_map false t field (flat_map (piece_signs separators) ps)
      ∙ scan_inside ps (field ++ map (mark false) t) h ∙ ap (λ l. l ∷ []) (append_assoc field (map (mark false) t) (marks ps))
  scan_inside (Bytes Quoted t ∷ ps) field h =
      scan_map true t field (flat_map (piece_signs separators) ps)
      ∙ scan_inside ps (field ++ map (mark true) t) h ∙ ap (λ l. l ∷ []) (append_assoc field (map (mark true) t) (marks ps))
  scan_inside (Bytes Unquoted t ∷ ps) field h = cc
  scan_inside (Break ∷ ps) field h = cc

  -- pieces that stand, and begin a field, are one field
  pub scan_before : (ps : List Piece) → list_all is_standing ps ≡ true → list_any begins ps ≡ true → scan Before (flat_map (piece_signs separators) ps) ≡ marks ps ∷ []
  unfolding scan piece_signs is_standing begins marks_of
  scan_before [] h k = cc
  scan_before (Bytes Literal [] ∷ ps) h k = scan_before ps h k
  scan_before (Bytes Literal (c ∷ cs) ∷ ps) h k =
      scan_map false cs (mark false c ∷ []) (flat_map (piece_signs separators) ps) ∙ scan_inside ps (mark false c ∷ map (mark false) cs) h
  scan_before (Bytes Quoted t ∷ ps) h k = scan_map true t [] (flat_map (piece_signs separators) ps) ∙ scan_inside ps (map (mark true) t) h
  scan_before (Bytes Unquoted t ∷ ps) h k = cc
  scan_before (Break ∷ ps) h k = cc

text_map : (quoted : Bool) (t : List ℕ) (ms : List Marked) → field_text (map (mark quoted) t ++ ms) ≡ t ++ field_text ms
text_map quoted [] ms = refl
text_map quoted (c ∷ cs) ms = ap (λ l. c ∷ l) (text_map quoted cs ms)

pub marks_text : (ps : List Piece) → field_text (marks ps) ≡ pieces_text ps
unfolding marks_of piece_text
marks_text [] = refl
marks_text (Bytes Literal t ∷ ps) = text_map false t (marks ps) ∙ ap (λ l. t ++ l) (marks_text ps)
marks_text (Bytes Quoted t ∷ ps) = text_map true t (marks ps) ∙ ap (λ l. t ++ l) (marks_text ps)
marks_text (Bytes Unquoted t ∷ ps) = text_map false t (marks ps) ∙ ap (λ l. t ++ l) (marks_text ps)
marks_text (Break ∷ ps) = marks_text ps

any_map : (test : Marked → Bool) (class : ℕ → Bool) (quoted : Bool) → ((c : ℕ) → test (mark quoted c) ≡ class c) → (t : List ℕ)
    → list_any test (map (mark quoted) t ++ []) ≡ list_any class t
any_map test class quoted same [] = refl
any_map test class quoted same (c ∷ cs) = rw (same c, any_map test class quoted same cs) refl

none_any : (t : List ℕ) → list_any (λ c. false) t ≡ false
none_any [] = refl
none_any (c ∷ cs) = none_any cs

-- Outcomes that spell a text

-- all pieces stand, their text is t, their unquoted bytes have the classes that has gives, and they
-- begin a field where field says so
record Spells (field : Bool) (t : List ℕ) (has : (ℕ → Bool) → Bool) (o : Outcome) : Type 0 where
  ended : o.state.ended ≡ false
  standing : list_all is_standing o.pieces ≡ true
  text : pieces_text o.pieces ≡ t
  classes : (test : Marked → Bool) (class : ℕ → Bool) → ((c : ℕ) → test (mark false c) ≡ class c) → ((c : ℕ) → test (mark true c) ≡ false)
      → list_any test (marks o.pieces) ≡ has class
  begins : field ≡ true → list_any begins o.pieces ≡ true

abbrev no_class : (ℕ → Bool) → Bool
no_class class = false

or_begins : (a b c d : Bool) → (a ≡ true → c ≡ true) → (b ≡ true → d ≡ true) → (a || b) ≡ true → (c || d) ≡ true
or_begins a b true d h k e = refl
or_begins true b false d h k e = absurd (true≢false (sym (h refl)))
or_begins false b false d h k e = k e

begin_where : {a b : Bool} {t : List ℕ} {h : (ℕ → Bool) → Bool} {o : Outcome} → (b ≡ true → a ≡ true) → Spells a t h o → Spells b t h o
begin_where e x = record { ended = x.ended; standing = x.standing; text = x.text; classes = x.classes; begins = λ i. x.begins (e i) }

module _ {a b : Bool} {t u : List ℕ} {h k : (ℕ → Bool) → Bool} where
  behind_spells : (o q : Outcome) (x : Bool) → x ≡ false → Spells a t h o → Spells b u k q
      → Spells (a || b) (t ++ u) (λ class. h class || k class) (if x then o else gives (o.pieces ++ q.pieces) q.state)
  behind_spells o q true e x y = cc
  behind_spells o q false e x y = record {
    ended = y.ended;
    standing = rw (list_all-append is_standing o.pieces q.pieces, x.standing) y.standing;
    text = rw (flat_map-append piece_text o.pieces q.pieces, x.text, y.text) refl;
    classes = λ test class m n.
        rw (flat_map-append marks_of o.pieces q.pieces, list_any-append test (marks o.pieces) (marks q.pieces), x.classes test class m n, y.classes test class m n) refl;
    begins = λ i. list_any-append begins o.pieces q.pieces ∙ or_begins a b (list_any begins o.pieces) (list_any begins q.pieces) x.begins y.begins i;
  }

  both_spell : (o : Outcome) (next : State → Outcome) → Spells a t h o → ((s : State) → s.ended ≡ false → Spells b u k (next s))
      → Spells (a || b) (t ++ u) (λ class. h class || k class) (followed o next)
  unfolding followed
  both_spell o next x y = behind_spells o (next o.state) o.state.ended x.ended x (y o.state x.ended)

quoted_spells : (v : Option (List ℕ)) (t : List ℕ) (s : State) → v ≡ Some t → s.ended ≡ false → Spells true t no_class (gives (Bytes Quoted (unwrap_or v []) ∷ []) s)
unfolding is_standing begins marks_of piece_text
quoted_spells v t s h l = subst (λ v. Spells true t no_class (gives (Bytes Quoted (unwrap_or v []) ∷ []) s)) (sym h) record {
  ended = l;
  standing = refl;
  text = append-nil t;
  classes = λ test class m n. any_map test (λ c. false) true n t ∙ none_any t;
  begins = λ i. refl;
}

plain_spells : (t : List ℕ) (s : State) → s.ended ≡ false → Spells (not (length t == 0)) t (λ class. list_any class t) (gives (Bytes Literal t ∷ []) s)
unfolding is_standing begins marks_of piece_text
plain_spells t s l = record {
  ended = l;
  standing = refl;
  text = append-nil t;
  classes = λ test class m n. any_map test class false m t;
  begins = λ i. rw i refl;
}

nothing_spells : (t : List ℕ) (s : State) → Some [] ≡ Some t → s.ended ≡ false → Spells false t no_class (gives [] s)
nothing_spells t s h l = record { ended = l; standing = refl; text = same_Some [] t h; classes = λ test class m n. refl; begins = λ i. i }

quotes_spell : (x : Bool) (s : State) → s.ended ≡ false → Spells (not x) [] no_class (gives (quote_pieces x) s)
unfolding quote_pieces is_standing begins marks_of piece_text
quotes_spell true s l = record { ended = l; standing = refl; text = refl; classes = λ test class m n. refl; begins = λ i. i }
quotes_spell false s l = record { ended = l; standing = refl; text = refl; classes = λ test class m n. refl; begins = λ i. refl }

-- Static words

-- two texts, one after the other
abbrev pub Joins : Option (List ℕ) → Option (List ℕ) → List ℕ → Type 0
Joins v w t = (a : List ℕ) × (b : List ℕ) × (v ≡ Some a) × (w ≡ Some b) × (a ++ b ≡ t)

pub joined_some : (v w : Option (List ℕ)) (t : List ℕ) → both_texts v w ≡ Some t → Joins v w t
joined_some None w t h = absurd (none-some t h)
joined_some (Some a) None t h = absurd (none-some t h)
joined_some (Some a) (Some b) t h = (a, b, refl, refl, same_Some (a ++ b) t h)

static_every_part : (x : p.Part) (t : List ℕ) → words.part_text x ≡ Some t → is_every x ≡ false
unfolding is_every words.part_text
static_every_part (p.Expansion at x operator) t h = absurd (none-some t h)
static_every_part x t h = refl

static_every : (w : p.Word) (t : List ℕ) → words.word_text w ≡ Some t → has_every w ≡ false
unfolding has_every words.part_text
static_every p.no_parts t h = refl
static_every (p.more_parts x w) t h =
    let parts : Joins (words.part_text x) (words.word_text w) t = joined_some (words.part_text x) (words.word_text w) t h in
    rw (static_every_part x parts.0 parts.2, static_every w parts.1 parts.3) refl

module _ (f : Frame) (status : ℕ) where
  mutual
    unfolding words.part_text expand_part

    quoted_part : (c : Context) (x : p.Part) (t : List ℕ) (s : State) → words.part_text x ≡ Some t → s.ended ≡ false
        → Spells false t no_class (expand_part f status (in_quotes c) x s)
    quoted_part c (p.Plain u) t s h l = begin_where (λ i. refl) (quoted_spells (Some u) t s h l)
    quoted_part c (p.Escaped u) t s h l = begin_where (λ i. refl) (quoted_spells (Some u) t s h l)
    quoted_part c (p.Single style u) t s h l = begin_where (λ i. refl) (quoted_spells (Some u) t s h l)
    quoted_part c (p.Double w) t s h l = begin_where (λ i. absurd (true≢false (sym i)))
        (both_spell (gives (quote_pieces (c.split && has_every w)) s) (expand f status (in_quotes c) w) (quotes_spell (c.split && has_every w) s l)
        (λ s l. quoted_word c w t s h l))
    quoted_part c p.Joined t s h l = nothing_spells t s h l
    quoted_part c x t s h l = absurd (none-some t h)

    -- what quotes hold, of static text
    quoted_word : (c : Context) (w : p.Word) (t : List ℕ) (s : State) → words.word_text w ≡ Some t → s.ended ≡ false
        → Spells false t no_class (expand f status (in_quotes c) w s)
    quoted_word c p.no_parts t s h l = nothing_spells t s h l
    quoted_word c (p.more_parts x w) t s h l =
        let parts : Joins (words.part_text x) (words.word_text w) t = joined_some (words.part_text x) (words.word_text w) t h in
        subst (λ t. Spells false t no_class (expand f status (in_quotes c) (p.more_parts x w) s)) parts.4
        (both_spell (expand_part f status (in_quotes c) x s) (expand f status (in_quotes c) w) (quoted_part c x parts.0 s parts.2 l)
        (λ s l. quoted_word c w parts.1 s parts.3 l))

  static_part : (x : p.Part) (t : List ℕ) (s : State) → words.part_text x ≡ Some t → s.ended ≡ false
      → Spells (gives_field x) t (λ class. words.part_has class x) (expand_part f status in_fields x s)
  unfolding words.part_text words.part_has gives_field expand_part
  static_part (p.Plain u) t s h l =
      subst (λ t. Spells (not (length u == 0)) t (λ class. list_any class u) (gives (Bytes Literal u ∷ []) s)) (same_Some u t h) (plain_spells u s l)
  static_part (p.Escaped u) t s h l = quoted_spells (Some u) t s h l
  static_part (p.Single style u) t s h l = quoted_spells (Some u) t s h l
  static_part (p.Double w) t s h l = begin_where (λ i. rw (static_every w t h) refl)
      (both_spell (gives (quote_pieces (has_every w)) s) (expand f status (in_quotes in_fields) w) (quotes_spell (has_every w) s l) (λ s l. quoted_word in_fields w t s h l))
  static_part p.Joined t s h l = nothing_spells t s h l
  static_part x t s h l = absurd (none-some t h)

  static_word : (w : p.Word) (t : List ℕ) (s : State) → words.word_text w ≡ Some t → s.ended ≡ false
      → Spells (some_gives_field w) t (λ class. words.word_has class w) (expand f status in_fields w s)
  unfolding words.part_text words.word_has some_gives_field expand_part
  static_word p.no_parts t s h l = nothing_spells t s h l
  static_word (p.more_parts x w) t s h l =
      let parts : Joins (words.part_text x) (words.word_text w) t = joined_some (words.part_text x) (words.word_text w) t h in
      subst (λ t. Spells (some_gives_field (p.more_parts x w)) t (λ class. words.word_has class (p.more_parts x w)) (expand f status in_fields (p.more_parts x w) s)) parts.4
      (both_spell (expand_part f status in_fields x s) (expand f status in_fields w) (static_part x parts.0 s parts.2 l) (λ s l. static_word w parts.1 s parts.3 l))

-- No pattern

bracket_alone : (w : p.Word) (t : List ℕ) → words.word_text w ≡ Some t → words.is_plainly (91 ∷ []) w ≡ true → t ≡ 91 ∷ []
unfolding words.part_text words.is_plainly
bracket_alone p.no_parts t h k = cc
bracket_alone (p.more_parts (p.Plain u) p.no_parts) t h k = sym (same_Some (u ++ []) t h) ∙ append-nil u ∙ (bytes_eq-Decides u (91 ∷ [])).0 k
bracket_alone (p.more_parts (p.Plain u) (p.more_parts y w)) t h k = cc
bracket_alone (p.more_parts x w) t h k = cc

is_bracket_of : (ms : List Marked) → field_text ms ≡ 91 ∷ [] → is_bracket ms ≡ true
unfolding is_bracket
is_bracket_of [] h = cc
is_bracket_of (m ∷ []) h = let same : m.byte ≡ 91 = cc in rw same refl
is_bracket_of (m ∷ n ∷ ms) h = cc

neither : (a c d e : Bool) → (a || (c && not d)) ≡ false → (d ≡ true → e ≡ true) → (a || (c && not e)) ≡ false
neither true c d e h k = h
neither false false d e h k = refl
neither false true true e h k = rw (k refl) refl
neither false true false e h k = cc

pub unless : {A : Type 0} (x : Bool) (v : Option A) (t : A) → (if x then None else v) ≡ Some t → (x ≡ false) × (v ≡ Some t)
unless true v t h = absurd (none-some t h)
unless false v t h = (refl, h)

spelled_no_pattern : (w : p.Word) (t : List ℕ) (field : Bool) (o : Outcome) → words.word_text w ≡ Some t → words.is_pattern w ≡ false
    → Spells field t (λ class. words.word_has class w) o → is_pattern (marks o.pieces) ≡ false
unfolding words.is_pattern is_pattern
spelled_no_pattern w t field o h k x =
    rw (x.classes (λ m. is_unquoted 42 m || is_unquoted 63 m) is_wildcard (λ c. refl) (λ c. refl), x.classes (is_unquoted 91) (λ c. c == 91) (λ c. refl) (λ c. refl))
    (neither (words.word_has is_wildcard w) (words.word_has (λ c. c == 91) w) (words.is_plainly (91 ∷ []) w) (is_bracket (marks o.pieces)) k
    (λ e. is_bracket_of (marks o.pieces) (marks_text o.pieces ∙ x.text ∙ bracket_alone w t h e)))

-- a word of static text that gives a field is that field
pub static_fields : (w : p.Word) (t : List ℕ) → words.static_of w ≡ Some t → some_gives_field w ≡ true
    → (separators : List ℕ) (directory : Directory) (f : Frame) (status : ℕ) (s : State) → s.ended ≡ false
    → fields separators directory (expand f status in_fields w s).pieces ≡ t ∷ []
unfolding words.static_of field_names
static_fields w t h g separators directory f status s l =
    let parts : (words.is_pattern w ≡ false) × (words.word_text w ≡ Some t) = unless (words.is_pattern w) (words.word_text w) t h in
    let o : Outcome = expand f status in_fields w s in
    let x : Spells (some_gives_field w) t (λ class. words.word_has class w) o = static_word f status w t s parts.1 l in
    rw (scan_before separators o.pieces x.standing (x.begins g), spelled_no_pattern w t (some_gives_field w) o parts.1 parts.0 x)
    (ap (λ u. u ∷ []) (marks_text o.pieces ∙ x.text))
