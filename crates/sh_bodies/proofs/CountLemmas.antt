-- How many operators of here-documents have come: what reads none keeps their number.
use Rattle.std.proofs.Common.{◌≡◌, ℕ, suc, ◌+◌, Bool, true, false, if◌then◌else◌, List, [], ◌∷◌, ◌++◌, length, Option, refl, ◌∙◌, arith, length-append}
use Rattle.sh_tree.specs.declared.token.command.Stage.TheVariants.{Named}
use Rattle.sh_tree.specs.declared.tree.Word.{Word}
use Rattle.sh_tree.specs.standard.language.Commands.{is_newline_lead, is_open}
use Rattle.sh_tree.specs.standard.language.HereDocuments.{Mark}
use Rattle.sh_tree.specs.standard.language.Reading as r
use Rattle.sh_tree.specs.standard.language.Reading.{lead_of, lead_here, skip, parted, unopened, ReadsDocuments, ReadsBreaks, ReadsForWords, ReadsWords, ReadsPatterns}
use Rattle.sh_tree.specs.standard.language.States.{Document, State, document_count}

-- a body that came waits no more
one_came : (ds : List Document) (d : Document) (pending : ℕ) (m : Mark) (ms : List Mark) → length (ds ++ d ∷ []) + pending + length ms ≡ length ds + pending + length (m ∷ ms)
one_came ds d pending m ms = omega (arith, length-append ds (d ∷ []))

documents_kept : {limit : ℕ} {b : List ℕ} {ms : List Mark} {s v : State} → ReadsDocuments limit b ms s v → document_count v ≡ document_count s + length ms
documents_kept {s = s} r.no_body = omega arith
documents_kept {s = s} (r.more_bodies {m = m} {ms = ms} e a c h k d) = documents_kept d ∙ one_came s.bodies _ (length s.pending) m ms

pub breaks_kept : {limit : ℕ} {b : List ℕ} {s v : State} → ReadsBreaks limit b s v → document_count v ≡ document_count s
breaks_kept (r.no_break h) = refl
breaks_kept {s = s} {v = v} (r.more_breaks {u = u} h q d k) = let rest = breaks_kept k in let came = documents_kept d in omega arith

either_kept : {n : ℕ} (c : Bool) (s u : State) → document_count s ≡ n → document_count u ≡ n → document_count (if c then s else u) ≡ n
either_kept true s u h k = h
either_kept false s u h k = k

pub parted_kept : (b : List ℕ) (s : State) → document_count (parted b s) ≡ document_count s
parted_kept b s = either_kept (is_newline_lead (lead_here b s)) s (skip b 1 s) refl refl

unopened_kept : (b : List ℕ) (s : State) → document_count (unopened b s) ≡ document_count s
unopened_kept b s = either_kept (is_open (lead_of b (Named false) s)) (skip b 1 s) s refl refl

words_kept : {limit : ℕ} {b : List ℕ} {s v : State} {ws : List Word} → ReadsWords limit b s v ws → document_count v ≡ document_count s
words_kept (r.no_word h) = refl
words_kept (r.more_words h w l) = words_kept l

pub for_words_kept : {limit : ℕ} {b : List ℕ} {s v : State} {o : Option (List Word)} → ReadsForWords limit b s v o → document_count v ≡ document_count s
for_words_kept (r.arguments_ended h k) = breaks_kept k
for_words_kept (r.arguments k h) = breaks_kept k
for_words_kept {b = b} (r.listed {v = v} k h w e l) = breaks_kept l ∙ parted_kept b v ∙ words_kept w ∙ breaks_kept k

patterns_read : {limit : ℕ} {b : List ℕ} {s v : State} {ws : List Word} → ReadsPatterns limit b s v ws → document_count v ≡ document_count s
patterns_read (r.last_pattern h w e) = refl
patterns_read (r.more_patterns h w e l) = patterns_read l

pub patterns_kept : {limit : ℕ} {b : List ℕ} {v : State} {ws : List Word} (s : State) → ReadsPatterns limit b (unopened b s) v ws → document_count v ≡ document_count s
patterns_kept {b = b} s l = patterns_read l ∙ unopened_kept b s

-- one more waits
pub one_waits : (came : ℕ) (ms : List Mark) (m : Mark) → came + length (ms ++ m ∷ []) ≡ suc (came + length ms)
one_waits came ms m = omega (arith, length-append ms (m ∷ []))
