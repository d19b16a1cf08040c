-- What is reported by the texts that a table keeps is what the definitions report.
use Rattle.std.proofs.Common.{◌≡◌, ◌<◌, ℕ, Bool, true, false, not, ◌&&◌, ◌||◌, if◌then◌else◌, cond, List, [], ◌∷◌, ◌++◌, length, append_assoc, append-nil, map, fold, filter, flat_map, codes, drop, Option, Some, None, is_some, unwrap_or, option_map, refl, sym, ap, ap₂, subst, ◌∙◌, Result, Ok, Err, OnOk, OnErr, arith, true≢false}
use Rattle.std.specs.List.{list_any, list_all}
use Rattle.std.specs.Str.{bytes_eq}
use Rattle.std.specs.Result.{is_err}
use Rattle.std.proofs.lemmas.Bool.{and_parts}
use Rattle.std.proofs.lemmas.List.{length-append}
use Rattle.std.proofs.lemmas.List.Folds.{list_all-map}
use Rattle.std.proofs.lemmas.Option.{same_Some}
use Rattle.std.proofs.lemmas.Slice.Eq.{bytes_eq-Decides}
use Rattle.sh_tree.specs.declared.known.KnownName.TheVariants as known
use Rattle.sh_tree.specs.declared.place.Place.{Place}
use Rattle.sh_tree.specs.declared.tree.Command.{Command, out-Command}
use Rattle.sh_tree.specs.declared.tree.Script.{Script}
use Rattle.sh_tree.specs.standard.language.Bytes.{is_first, is_name}
use Rattle.sh_tree.specs.standard.program.Syntax as p
use Rattle.sh_tree.specs.standard.program.Syntax.{Text}
use Rattle.sh_tree.specs.standard.program.Trees as trees
use Rattle.sh_tree.specs.standard.program.Words.{static_of, assignment_in, words_in, operands_in, assignments_in}
use Rattle.sh_tree.proofs.ProgramRules as rules
use Rattle.sh_runs.specs.Calls.{Table, table_of, texts_with, text_at, static_at}
use Rattle.sh_runs.specs.standard.Kinds.{kind_of, is_declaration}
use Rattle.sh_runs.specs.Numbering.{is_numbered}
use Rattle.sh_runs.specs.Profile.{Static}
use Rattle.sh_runs.specs.Quoting.{is_ifs, is_at, are_quotations, word_mentions, word_assigns}
use Rattle.sh_runs.specs.Sites.{Site, site_of, form_of, statics}
use Rattle.sh_runs.specs.Surroundings.{Surroundings, Located, outside, items_located}
use Rattle.sh_table.specs.Walks.{located}
use Rattle.sh_table.specs.WordTexts.{text_in}
use Rattle.sh_runs.specs.declared.kind.Kind as meaning
use Rattle.sh_runs.specs.declared.kind.Kind.TheVariants as kinds
use Rattle.sh_table.specs.declared.site.Around.{Around}
use Rattle.sh_table.specs.declared.word_text.WordText.{WordText}
use Rattle.sh_runs.specs.standard.runs.Operands as o
use Rattle.sh_runs.specs.standard.runs.Operands.{ReadOption, Complete, TakesNext, Other, read_option, is_dashed, ends_options}
use Rattle.sh_table.proofs.NumberLemmas.{Tells, numbered_tells}
use Rattle.sh_domain.specs.Operands as facts
use Rattle.sh_runs.specs.ReadOptions.{go_on, read_operands, takes_next}
use Rattle.sh_quote.specs.Places.{word_places, split_words, split_operands, unquoted}
use Rattle.sh_quote.specs.Steady.{redirect_words, kind_words, steady_assignment, is_static, steady_declared, steady_operand, steady_getopts, steady_operands, steady_words, steady_kind, steady_command, steady}
use Rattle.sh_quote.specs.Operands.{names_other, all_read, names_ifs, reads_ifs, is_ifs_static}
use Rattle.sh_quote.specs.Commands as commands
use Rattle.sh_quote.specs.Commands.{by_form, all_declared_by, is_one_field_by, all_options_by, operands_by, named_by, words_by, kind_by, command_by, command_steady, texts_of, kept_of}
use Rattle.sh_quote.specs.Unquoted as places
use Rattle.sh_quote.specs.Unquoted.{declares, split_by, split_kind, kind_told, Keeps, command_told}

with_true : (x : Bool) → (x && true) ≡ x
with_true true = refl
with_true false = refl

with_false : (x : Bool) → (x || false) ≡ x
with_false true = refl
with_false false = refl

-- `export` and `readonly`

declared_one : (w : p.Word) → by_form (assignment_in w) (static_of w) ≡ steady_declared w
unfolding by_form steady_declared
declared_one w = go (assignment_in w) refl
  where
    go : (x : Option (Text × p.Word)) → assignment_in w ≡ x → by_form x (static_of w) ≡ steady_declared w
    go None e = rw e refl
    go (Some y) e = rw e refl

declared_whole : (ws : List p.Word) → all_declared_by ws (map static_of ws) ≡ list_all steady_declared ws
unfolding all_declared_by
declared_whole [] = refl
declared_whole (w ∷ ws) = ap₂ (λ x y. x && y) (declared_one w) (declared_whole ws)

-- `getopts`

field_one : (w : p.Word) → is_one_field_by w (static_of w) ≡ (steady_operand w || (not (is_static w) && are_quotations w && not (word_mentions is_at w)))
unfolding is_one_field_by steady_operand
field_one w = go (static_of w)
  where
    go : (x : Static)
        → is_one_field_by w x ≡ (unwrap_or (option_map (λ t. not (is_ifs t)) x) false || (not (is_some x) && are_quotations w && not (word_mentions is_at w)))
    go None = refl
    go (Some t) = sym (with_false (not (is_ifs t)))

other_one : (w : p.Word) → names_other (static_of w) ≡ steady_operand w
unfolding names_other steady_operand
other_one w = go (static_of w)
  where
    go : (x : Static) → names_other x ≡ unwrap_or (option_map (λ t. not (is_ifs t)) x) false
    go None = refl
    go (Some t) = refl

others_whole : (ws : List p.Word) → list_all names_other (map static_of ws) ≡ list_all steady_operand ws
others_whole [] = refl
others_whole (w ∷ ws) = ap₂ (λ x y. x && y) (other_one w) (others_whole ws)

options_whole : (ws : List p.Word) → all_options_by ws (map static_of ws) ≡ steady_getopts ws
unfolding all_options_by steady_getopts
options_whole [] = refl
options_whole (w ∷ ws) = ap₂ (λ x y. x && y) (field_one w) (others_whole ws)

-- `read`

is_the_name : (t : Text) → is_ifs t ≡ true → is_name t ≡ true
unfolding is_first
is_the_name t h = ap is_name ((bytes_eq-Decides t (codes "IFS")).0 h)

not_name : (t : Text) → is_name t ≡ false → is_ifs t ≡ false
not_name t h = go (is_ifs t) refl
  where
    go : (x : Bool) → is_ifs t ≡ x → is_ifs t ≡ false
    go true e = let both : true ≡ false = sym (is_the_name t e) ∙ h in cc
    go false e = e

any_name : (ts : List Text) → list_any is_ifs_static (map Some ts) ≡ list_any is_ifs (filter is_name ts)
unfolding is_ifs_static
any_name [] = refl
any_name (t ∷ ts) = go (any_name ts) (is_name t) refl
  where
    go : list_any is_ifs_static (map Some ts) ≡ list_any is_ifs (filter is_name ts) → (x : Bool) → is_name t ≡ x
        → list_any is_ifs_static (map Some (t ∷ ts)) ≡ list_any is_ifs (cond x (t ∷ filter is_name ts) (filter is_name ts))
    go h true e = ap (λ y. is_ifs t || y) h
    go h false e = let other = not_name t e in rw other h

-- the names among operands
abbrev named : Option (List Text) → List Text
named None = []
named (Some ts) = filter is_name ts

named_whole : (ts : List Text) → unwrap_or (o.read_names ts) [] ≡ named (o.read_from false ts)
named_whole ts = go (o.read_from false ts) refl
  where
    go : (x : Option (List Text)) → o.read_from false ts ≡ x → unwrap_or (o.read_names ts) [] ≡ named x
    go None e = rw e refl
    go (Some us) e = rw e refl

read_listed : (takes : Bool) (ts : List Text) → names_ifs (read_operands takes (map Some ts)) ≡ list_any is_ifs (named (o.read_from takes ts))
unfolding names_ifs read_operands o.read_from go_on takes_next
read_listed true [] = refl
read_listed false [] = refl
read_listed true (t ∷ ts) = read_listed false ts
read_listed false (t ∷ ts) = go (λ takes. read_listed takes ts) (ends_options t) (is_dashed t) (read_option (drop 1 t)) refl refl refl
  where
    go : ((takes : Bool) → names_ifs (read_operands takes (map Some ts)) ≡ list_any is_ifs (named (o.read_from takes ts))) → (x y : Bool) (z : ReadOption)
        → ends_options t ≡ x → is_dashed t ≡ y → read_option (drop 1 t) ≡ z
        → names_ifs (read_operands false (map Some (t ∷ ts))) ≡ list_any is_ifs (named (o.read_from false (t ∷ ts)))
    go h true y z a b c = rw a (any_name ts)
    go h false false z a b c = rw (a, b) (any_name (t ∷ ts))
    go h false true Complete a b c = rw (a, b, c) (h false)
    go h false true TakesNext a b c = rw (a, b, c) (h true)
    go h false true Other a b c = rw (a, b, c) refl

all_some : (ws : List p.Word) → list_all is_static ws ≡ true → map static_of ws ≡ map Some (facts.statics ws)
all_some [] h = refl
all_some (w ∷ ws) h = go (all_some ws (and_parts _ _ h).1) (static_of w) refl (and_parts _ _ h).0
  where
    go : map static_of ws ≡ map Some (facts.statics ws) → (x : Static) → static_of w ≡ x → is_some (static_of w) ≡ true
        → map static_of (w ∷ ws) ≡ map Some (facts.statics (w ∷ ws))
    go m None e h = let never : false ≡ true = sym (ap is_some e) ∙ h in cc
    go m (Some t) e h = rw e (ap (λ l. Some t ∷ l) m)

read_whole : (ws : List p.Word) → all_read (map static_of ws) ≡ (list_all is_static ws && not (list_any is_ifs (facts.read_names ws)))
unfolding all_read facts.read_names
read_whole ws =
    ap (λ x. x && not (reads_ifs (map static_of ws))) (list_all-map is_some static_of ws) ∙ go (list_all is_static ws) refl
  where
    go : (x : Bool) → list_all is_static ws ≡ x
        → (list_all is_static ws && not (reads_ifs (map static_of ws))) ≡ (list_all is_static ws && not (list_any is_ifs (facts.read_names ws)))
    go false e = rw e refl
    go true e =
        rw e (ap not (ap (λ ts. reads_ifs ts) (all_some ws e) ∙ read_listed false (facts.statics ws) ∙ ap (list_any is_ifs) (sym (named_whole (facts.statics ws)))))

-- utilities and commands

operands_whole : (k : meaning.Kind) (ws : List p.Word) → operands_by k ws (map static_of ws) ≡ steady_operands k ws
unfolding operands_by steady_operands
operands_whole (kinds.Special known.Export) ws = declared_whole ws
operands_whole (kinds.Special known.Readonly) ws = declared_whole ws
operands_whole kinds.Read ws = read_whole ws
operands_whole kinds.Getopts ws = options_whole ws
operands_whole k ws = refl

words_whole : (ws : List p.Word) → words_by ws (map static_of ws) ≡ steady_words ws
unfolding words_by named_by steady_words
words_whole [] = refl
words_whole (w ∷ ws) = go (static_of w)
  where
    go : (x : Static) → words_by (w ∷ ws) (x ∷ map static_of ws) ≡ unwrap_or (option_map (λ t. steady_operands (kind_of t) ws) x) true
    go None = refl
    go (Some t) = operands_whole (kind_of t) ws

kind_whole : (k : p.Kind) → kind_by k (statics (form_of k)) ≡ steady_kind k
unfolding kind_by steady_kind form_of statics
kind_whole (p.Simple es) = ap (λ x. list_all steady_assignment (assignments_in es) && x) (words_whole (words_in (operands_in es)))
kind_whole k = refl

-- the text of a command's name

abbrev Own : Table → Site → Type 0
Own x s = texts_with s.number x.rows ≡ statics s.form

command_whole : (x : Table) (s : Surroundings) (c : p.Command) → Own x (site_of (record { command = c; surroundings = s })) → command_by c (texts_of x c) ≡ steady_command c
unfolding command_by steady_command texts_of site_of
command_whole x s (p.command n at k rs) h =
    ap (λ y. y && not (list_any (word_assigns is_ifs) (redirect_words rs ++ kind_words k))) (ap (kind_by k) h ∙ kind_whole k)

all_steady : (x : Table) (steady : Bool) (ls : List Located) → Tells (λ n. texts_with n x.rows) (map site_of ls)
    → fold commands.with_command (Some (record { table = x; steady = steady })) ls
    ≡ Some (record { table = x; steady = steady && list_all (λ l. steady_command l.command) ls })
all_steady x steady [] h = ap (λ y. Some (record { table = x; steady = y })) (sym (with_true steady))
all_steady x steady (l ∷ ls) h =
    all_steady x (steady && command_by l.command (texts_of x l.command)) ls h.1
    ∙ ap (λ y. Some (record { table = x; steady = y }))
    (ap (λ y. (steady && y) && list_all (λ m. steady_command m.command) ls) (command_whole x l.surroundings l.command h.0)
    ∙ and_grouped steady (steady_command l.command) (list_all (λ m. steady_command m.command) ls))
  where
    and_grouped : (a b c : Bool) → ((a && b) && c) ≡ (a && (b && c))
    and_grouped true b c = refl
    and_grouped false b c = refl

-- what is reported

declares_one : (x : Static) → declares x ≡ unwrap_or (option_map (λ t. is_declaration (kind_of t)) x) false
unfolding declares
declares_one None = refl
declares_one (Some t) = refl

split_whole : (ws : List p.Word) → split_by (static_at (map static_of ws) 0) ws ≡ split_operands ws
unfolding split_by split_operands static_at
split_whole [] = refl
split_whole (w ∷ ws) = ap (λ d. w ∷ (if d then filter (λ v. not (is_some (assignment_in v))) ws else ws)) (declares_one (static_of w))

told_whole : (x : Table) (steady : Bool) (s : Surroundings) (c : p.Command) → Own x (site_of (record { command = c; surroundings = s }))
    → command_told x steady c ≡ flat_map (word_places steady) (split_words c)
unfolding command_told split_kind split_words site_of form_of statics text_at
told_whole x steady s (p.command n at (p.Simple es) rs) h =
    ap (flat_map (word_places steady)) (ap (λ ts. split_by (static_at ts 0) (words_in (operands_in es))) h ∙ split_whole (words_in (operands_in es)))
told_whole x steady s (p.command n at k rs) h = refl

abbrev places_in : Bool → List Located → List Place
places_in steady ls = flat_map (λ l. flat_map (word_places steady) (split_words l.command)) ls

all_told : (x : Table) (steady : Bool) (ps : List Place) (ls : List Located) → Tells (λ n. texts_with n x.rows) (map site_of ls)
    → fold places.with_command (record { table = x; steady = steady; places = ps }) ls ≡ record { table = x; steady = steady; places = ps ++ places_in steady ls }
all_told x steady ps [] h = ap (λ l. record { table = x; steady = steady; places = l }) (sym (append-nil ps))
all_told x steady ps (l ∷ ls) h =
    all_told x steady (ps ++ command_told x steady l.command) ls h.1
    ∙ ap (λ q. record { table = x; steady = steady; places = q })
    (ap (λ q. (ps ++ q) ++ places_in steady ls) (told_whole x steady l.surroundings l.command h.0)
    ∙ append_assoc ps (flat_map (word_places steady) (split_words l.command)) (places_in steady ls))

-- a visit

abbrev kept_if : Bool → Table → Bool → Option commands.Kept
kept_if z x ok = if z then Some (record { table = x; steady = ok }) else None

row_out : (b : List ℕ) (x : Table) (c : Command) → texts_of x (trees.command_of b c) ≡ texts_with (out-Command c).number x.rows
unfolding texts_of
row_out b x c = ap (texts_of x) (rules.command_of-out b c)

pub watched : (b : List ℕ) (x : Table) (ok r : Bool) (c : Command) (s : Around) (texts : List WordText) → map (text_in x.script) texts ≡ texts_with (out-Command c).number x.rows
    → r ≡ command_steady b c (map (text_in b) texts) → (k : Option commands.Kept) → kept_of b x ok ≡ k
    → kept_of b x (ok && r) ≡ commands.with_command k (located b s c)
unfolding kept_of command_steady
watched b x ok r c s texts e h k same = go (bytes_eq x.script b) refl ∙ ap (λ z. commands.with_command z (located b s c)) same
  where
    told : x.script ≡ b → r ≡ command_by (trees.command_of b c) (texts_of x (trees.command_of b c))
    told same = h ∙ ap (command_by (trees.command_of b c)) (ap (λ d. map (text_in d) texts) (sym same) ∙ e ∙ sym (row_out b x c))

    go : (y : Bool) → bytes_eq x.script b ≡ y → kept_if y x (ok && r) ≡ commands.with_command (kept_if y x ok) (located b s c)
    go false q = refl
    go true q = ap (λ z. Some (record { table = x; steady = ok && z })) (told ((bytes_eq-Decides x.script b).0 q))

told_out : (b : List ℕ) (x : Table) (steady : Bool) (c : Command)
    → command_told x steady (trees.command_of b c) ≡ kind_told b (text_at x (out-Command c).number 0) steady (out-Command c).kind
unfolding command_told kind_told
told_out b x steady c = ap (command_told x steady) (rules.command_of-out b c)

-- what the table says of a command is what is reported of it
told_by : (b : List ℕ) (x : Table) (steady : Bool) (c : Command) (name : Static) → name ≡ text_at x (out-Command c).number 0
    → kind_told b name steady (out-Command c).kind ≡ command_told x steady (trees.command_of b c)
told_by b x steady c name e = ap (λ q. kind_told b q steady (out-Command c).kind) e ∙ sym (told_out b x steady c)

more_there : (xs ys : List Place) → 0 < length ys → 0 < length (xs ++ ys)
more_there xs ys h = omega (arith, h, length-append xs ys)

-- before the first command
pub begins : (k : places.Kept) → Keeps false k k
unfolding Keeps
begins k = refl

-- a command after memory ran out
pub still_short : (short : Bool) (there k : places.Kept) (b : List ℕ) (s : Around) (c : Command) → short ≡ true → Keeps short there k
    → Keeps short there (places.with_command k (located b s c))
unfolding Keeps
still_short false there k b s c e h = cc
still_short true there k b s c e h = omega (arith, h, length-append k.places (command_told k.table k.steady (trees.command_of b c)))

-- a command before that
pub told_at_visit : {X E : Type 0} (r : Result X E) (b : List ℕ) (x : Table) (steady : Bool) (old new : List Place) (c : Command) (s : Around) (name : Static)
    → name ≡ text_at x (out-Command c).number 0 → OnOk r (new ≡ old ++ kind_told b name steady (out-Command c).kind)
    → OnErr r (0 < length (kind_told b name steady (out-Command c).kind)) → (before after : Bool) → before ≡ false → after ≡ is_err r
    → (k : places.Kept) → Keeps before (record { table = x; steady = steady; places = old }) k
    → Keeps after (record { table = x; steady = steady; places = new }) (places.with_command k (located b s c))
unfolding Keeps
told_at_visit r b x steady old new c s name e h some true after f g k q = absurd (true≢false f)
told_at_visit (Ok y) b x steady old new c s name e h some false true f g k q = absurd (true≢false g)
told_at_visit (Ok y) b x steady old new c s name e h some false false f g k q =
    ap (λ ps. record { table = x; steady = steady; places = ps }) (h ∙ ap (λ ps. old ++ ps) (told_by b x steady c name e)) ∙ ap (λ z. places.with_command z (located b s c)) q
told_at_visit (Err y) b x steady old new c s name e h some false false f g k q = absurd (true≢false (sym g))
told_at_visit (Err y) b x steady old new c s name e h some false true f g k q =
    subst (λ z. 0 < length (places.with_command z (located b s c)).places) q
    (more_there old (command_told x steady (trees.command_of b c)) (subst (λ ps. 0 < length ps) (told_by b x steady c name e) some))

-- a whole script

whole_tells : (b : List ℕ) (t : Script) (x : Table) → x ≡ table_of b t → is_numbered (trees.script_of b t) ≡ true
    → Tells (λ n. texts_with n x.rows) (map site_of (items_located outside (trees.script_of b t)))
unfolding table_of
whole_tells b t x e n = rw e (numbered_tells (trees.script_of b t) n)

pub steady_whole : (b : List ℕ) (t : Script) (x y : Table) (ok : Bool) → x ≡ table_of b t → is_numbered (trees.script_of b t) ≡ true
    → kept_of b y ok ≡ fold commands.with_command (kept_of b x true) (items_located outside (trees.script_of b t)) → ok ≡ steady (trees.script_of b t)
unfolding kept_of steady table_of
steady_whole b t x y ok e n h =
    let same : bytes_eq x.script b ≡ true = (bytes_eq-Decides x.script b).1 (ap (λ z. z.script) e) in
    let ls = items_located outside (trees.script_of b t) in
    let begun : kept_of b x true ≡ Some (record { table = x; steady = true }) = rw same refl in
    go (bytes_eq y.script b) (h ∙ ap (λ k. fold commands.with_command k ls) begun ∙ all_steady x true ls (whole_tells b t x e n))
  where
    go : (z : Bool)
        → kept_if z y ok
        ≡ Some (record { table = x; steady = list_all (λ l. steady_command l.command) (items_located outside (trees.script_of b t)) })
        → ok ≡ list_all (λ l. steady_command l.command) (items_located outside (trees.script_of b t))
    go true w = ap (λ k. k.steady) (same_Some _ _ w)
    go false w = cc

-- what is kept of a whole script
kept_whole : (b : List ℕ) (t : Script) (x : Table) (ok : Bool) (first : List Place) → x ≡ table_of b t → is_numbered (trees.script_of b t) ≡ true
    → ok ≡ steady (trees.script_of b t) → first ≡ []
    → (fold places.with_command (record { table = x; steady = ok; places = first }) (items_located outside (trees.script_of b t))).places ≡ unquoted (trees.script_of b t)
unfolding unquoted
kept_whole b t x ok first e n s f =
    let ls = items_located outside (trees.script_of b t) in
    ap (λ k. k.places) (all_told x ok first ls (whole_tells b t x e n)) ∙ ap₂ (λ l z. l ++ places_in z ls) f s

abbrev WholeKept : (b : List ℕ) (t : Script) (x y : Table) (ok last short : Bool) (first ps : List Place) → Type 0
WholeKept b t x y ok last short first ps =
    Keeps short (record { table = y; steady = last; places = ps }) (fold places.with_command (record { table = x; steady = ok; places = first }) (items_located outside (trees.script_of b t)))

pub places_whole : (b : List ℕ) (t : Script) (x y : Table) (ok last short : Bool) (first ps : List Place) → x ≡ table_of b t → is_numbered (trees.script_of b t) ≡ true
    → ok ≡ steady (trees.script_of b t) → first ≡ [] → WholeKept b t x y ok last short first ps → short ≡ false → ps ≡ unquoted (trees.script_of b t)
unfolding Keeps
places_whole b t x y ok last true first ps e n s f h q = absurd (true≢false q)
places_whole b t x y ok last false first ps e n s f h q = ap (λ k. k.places) h ∙ kept_whole b t x ok first e n s f

pub some_whole : (b : List ℕ) (t : Script) (x y : Table) (ok last short : Bool) (first ps : List Place) → x ≡ table_of b t → is_numbered (trees.script_of b t) ≡ true
    → ok ≡ steady (trees.script_of b t) → first ≡ [] → WholeKept b t x y ok last short first ps → short ≡ true → 0 < length (unquoted (trees.script_of b t))
unfolding Keeps
some_whole b t x y ok last true first ps e n s f h q = subst (λ l. 0 < length l) (kept_whole b t x ok first e n s f) h
some_whole b t x y ok last false first ps e n s f h q = absurd (true≢false (sym q))
