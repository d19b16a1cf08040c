-- What a level of a parse with no fault leaves in its rows: each has a first value, and that value
-- passed.
use Rattle.std.proofs.Common.{◌≡◌, ◌<◌, ◌&&◌, ◌||◌, ◌⊎◌, ℕ, Bool, cond, true, false, zero, suc, refl, sym, subst, arith, lt-ltb, ne_eqb, true≢false, List, [], ◌∷◌, ◌++◌, length, drop, Option, Some, None, is_some, inl, inr}
use Rattle.std.specs.Prelude.{⊤, encode_utf8, find, fold, slice_get}
use Rattle.std.specs.List.{list_any}
use Rattle.std.specs.Option.{option_map_or}
use Rattle.std.specs.Str.{bytes_eq, chars}
use Rattle.clap.specs.Lexer.{long_of, short_of}
use Rattle.clap.specs.Facts.{explicit_source, parser_of_value, unwrap_or_range}
use Rattle.clap.specs.Walk.{Held, Names, Outcome, done, waits, plain, refused, Row, Rule, Step, next, trailing, subcommand, value, Text, Waiting, idle, option, positional, Walk, action_of, after_flag, after_step, arg_by_id, arg_by_index, arg_by_long, arg_by_short, at_row, attached_value, bundle, bundle_met, bundle_step, default_rows, finished, flag_met, has_row, is_empty, is_pending, long_met, long_or_other, more_values, option_met, option_word, plain_word, pushed, reacted, reading_by, settled, settled_rows, short_met, short_or_plain, subcommand_met, subcommand_or_other, takes_several, takes_values, to_positional, used, used_as, used_by_id, values_or_missing, walk, walk_from, walked, walked_from, with_default, with_values, without, word_met}
use Rattle.clap.specs.Simple.{Shape}
use Rattle.clap.specs.Takes.{is_given}
use Rattle.clap.specs.Kinds.{Kinds, or_else, range_kinds, request_kinds, value_kinds}
use Rattle.clap.specs.Faults.{action_fault, bundle_fault, bundle_step_fault, check_fault, default_fault, defaults_fault, flag_word_fault, flags_fault, level_fault, long_fault, option_fault, other_fault, positional_fault, react_fault, settle_fault, short_fault, step_fault, stray_fault, turn_fault, use_fault, values_fault, walk_fault, word_fault}
use Rattle.clap.specs.declared.builder.action.ArgAction.{ArgAction}
use Rattle.clap.specs.declared.builder.action.ArgAction.TheVariants as action
use Rattle.clap.specs.declared.builder.value_parser.Reading.{Reading}
use Rattle.clap.specs.declared.error.kind.ErrorKind.TheVariants as kind
use Rattle.clap.specs.declared.parser.matches.ValueSource.{ValueSource}
use Rattle.clap.specs.declared.parser.matches.ValueSource.TheVariants.{DefaultValue, CommandLine}
use Rattle.std.proofs.lemmas.Slice.Eq.{bytes_eq-Decides}

-- where the first fault of two steps is none, both pass
pub both_pass : (a b : Kinds) → or_else a b ≡ [] → (a ≡ []) × (b ≡ [])
both_pass [] b e = (refl, e)
both_pass (k ∷ ks) b e = cc

no_values : (start most : ℕ) → 0 < start → range_kinds start most 0 ≡ [] → ⊥
no_values start most some e =
    let bad : kind.InvalidValue ∷ [] ≡ [] = rw (lt-ltb 0 start some) at e in
    cc

-- what the last checks of a level with no fault find, and the level below it
pub level_checks : (s : Shape) (names : Names) (h : Held) (words : List Text) (has_subcommand : Bool) (below : Kinds)
    → level_fault s names h words has_subcommand below ≡ []
    → (check_fault s (finished s.rules (walk s.rules names h words).held) has_subcommand ≡ []) × (below ≡ [])
level_checks s names h words has_subcommand below e =
    let a = both_pass _ _ e in
    let b = both_pass _ _ a.1 in
    let c = both_pass _ _ b.1 in
    ((both_pass _ _ c.1).1, b.0)

-- the row has a first value, which fits
pub record Good (F : Text → Reading → Text → Type 0) (r : Row) : Type 0 where
  pub first : Text
  pub is : slice_get r.values 0 ≡ Some first
  pub fits : F r.id r.reading first

-- a use of the argument has a value, or asks for help, or means one that fits; and a value that
-- passes fits
pub record Sound (F : Text → Reading → Text → Type 0) (a : Rule) : Type 0 where
  pub takes : (0 < (unwrap_or_range a.range).start_inclusive) ⊎ ((action_of a ≡ action.Help) ⊎ ((v : Text) × (vs : List Text) × (values_or_missing a [] ≡ v ∷ vs) × F a.id (reading_by a) v))
  pub fits : (v : Text) → value_kinds a.ignore_case (parser_of_value a.parser) v ≡ [] → F a.id (reading_by a) v

abbrev pub AllGood : (Text → Reading → Text → Type 0) → List Row → Type 0
AllGood F [] = ⊤
AllGood F (r ∷ rs) = Good F r × AllGood F rs

abbrev pub AllSound : (Text → Reading → Text → Type 0) → List Rule → Type 0
AllSound F [] = ⊤
AllSound F (a ∷ rest) = Sound F a × AllSound F rest

first_stays : (xs ys : List Text) (v : Text) → slice_get xs 0 ≡ Some v → slice_get (xs ++ ys) 0 ≡ Some v
first_stays [] ys v e = cc
first_stays (x ∷ xs) ys v e = e

module _ (F : Text → Reading → Text → Type 0) where
  join : (xs ys : List Row) → AllGood F xs → AllGood F ys → AllGood F (xs ++ ys)
  join [] ys g h = h
  join (x ∷ xs) ys g h = (g.0, join xs ys g.1 h)

  at_row-good : (id : Text) (change : Row → List Row) (missing rows : List Row) → AllGood F missing
      → ((r : Row) → Good F r → AllGood F (change r)) → AllGood F rows → AllGood F (at_row id change missing rows)
  at_row-good id change missing [] m step g = m
  at_row-good id change missing (r ∷ rs) m step g = go (bytes_eq r.id id) (at_row-good id change missing rs m step g.1)
    where
      go : (b : Bool) → AllGood F (at_row id change missing rs) → AllGood F (cond b (change r ++ rs) (r ∷ at_row id change missing rs))
      go true rest = join (change r) rs (step r g.0) g.1
      go false rest = (g.0, rest)

  with_values-good : (id : Text) (how : Reading) (s : ValueSource) (v : Text) (vs : List Text) (rows : List Row) → F id how v
      → AllGood F rows → AllGood F (with_values id how s (v ∷ vs) rows)
  with_values-good id how s v vs rows f g =
      at_row-good id (more_values s (v ∷ vs)) (record {
        id = id;
        values = v ∷ vs;
        count = None;
        source = Some s;
        reading = how;
      } ∷ []) rows
      (record { first = v; is = refl; fits = f }, tt)
      (λ r h. (record { first = h.first; is = first_stays r.values (v ∷ vs) h.first h.is; fits = h.fits }, tt))
      g

  without-good : (id : Text) (rows : List Row) → AllGood F rows → AllGood F (without id rows)
  without-good id rows g = at_row-good id (λ _. []) [] rows tt (λ r h. tt) g

  used_as-good : (x : ArgAction) (id : Text) (how : Reading) (v : Text) (vs : List Text) (rows : List Row) → F id how v
      → AllGood F rows → AllGood F (used_as x id how (v ∷ vs) rows)
  used_as-good action.Set id how v vs rows f g = with_values-good id how CommandLine v vs (without id rows) f (without-good id rows g)
  used_as-good action.SetTrue id how v vs rows f g = with_values-good id how CommandLine v vs (without id rows) f (without-good id rows g)
  used_as-good action.SetFalse id how v vs rows f g = with_values-good id how CommandLine v vs (without id rows) f (without-good id rows g)
  used_as-good action.Append id how v vs rows f g = with_values-good id how CommandLine v vs rows f g
  used_as-good action.Count id how v vs rows f g = with_values-good id how CommandLine v vs (without id rows) f (without-good id rows g)
  used_as-good action.Help id how v vs rows f g = g
  used_as-good action.HelpShort id how v vs rows f g = g
  used_as-good action.HelpLong id how v vs rows f g = g
  used_as-good action.Version id how v vs rows f g = g

  action_values : (x : ArgAction) (again : Bool) (a : Rule) (v : Text) (vs : List Text) (rows : List Row)
      → action_fault x again a (v ∷ vs) rows ≡ [] → values_fault a (v ∷ vs) ≡ []
  action_values action.Set again a v vs rows e = (both_pass _ _ e).1
  action_values action.SetTrue again a v vs rows e = (both_pass _ _ e).1
  action_values action.SetFalse again a v vs rows e = (both_pass _ _ e).1
  action_values action.Append again a v vs rows e = e
  action_values action.Count again a v vs rows e = e
  action_values action.Help again a v vs rows e = cc
  action_values action.HelpShort again a v vs rows e = cc
  action_values action.HelpLong again a v vs rows e = cc
  action_values action.Version again a v vs rows e = cc

  used-good : (again : Bool) (a : Rule) (values : List Text) (rows : List Row) → Sound F a → use_fault again a values rows ≡ []
      → AllGood F rows → AllGood F (used a values rows)
  used-good again a [] rows s e g = elim s.takes [
    | inl some ↦ absurd (no_values _ _ some (both_pass _ _ e).0)
    | inr (inl help) ↦ subst (λ x. AllGood F (used_as x a.id (reading_by a) (values_or_missing a []) rows)) (sym help) g
    | inr (inr flag) ↦ subst (λ vs. AllGood F (used_as (action_of a) a.id (reading_by a) vs rows)) (sym flag.2) (used_as-good (action_of a) a.id (reading_by a) flag.0 flag.1 rows flag.3 g)
  ]
  used-good again a (v ∷ vs) rows s e g =
      let passes = action_values (action_of a) again a v vs rows (both_pass _ _ e).1 in
      used_as-good (action_of a) a.id (reading_by a) v vs rows (s.fits v (both_pass _ _ passes).0) g

  by_id-good : (again : Bool) (o : Option Rule) (values : List Text) (rows : List Row) → ((a : Rule) → o ≡ Some a → Sound F a)
      → option_map_or (λ a. use_fault again a values rows) o [] ≡ [] → AllGood F rows → AllGood F (used_by_id o values rows)
  by_id-good again None values rows s e g = g
  by_id-good again (Some a) values rows s e g = used-good again a values rows (s a refl) e g

  default-good : (a : Rule) (rows : List Row) → Sound F a → default_fault rows a ≡ [] → AllGood F rows → AllGood F (with_default rows a)
  default-good a rows s e g = go (has_row a.id rows) e
    where
      given : (ds : List Text) → cond (is_empty ds) [] (or_else (request_kinds (action_of a)) (values_fault a ds)) ≡ []
          → AllGood F (default_rows a.id (reading_by a) ds rows)
      given [] e = g
      given (d ∷ ds) e =
          let some : is_empty (d ∷ ds) ≡ false = ne_eqb (length (d ∷ ds)) 0 (λ h. omega arith) in
          let passes : or_else (request_kinds (action_of a)) (values_fault a (d ∷ ds)) ≡ [] = rw some at e in
          with_values-good a.id (reading_by a) DefaultValue d ds rows (s.fits d (both_pass _ _ (both_pass _ _ passes).1).0) g

      go : (b : Bool) → cond (b || is_empty a.defaults) [] (or_else (request_kinds (action_of a)) (values_fault a a.defaults)) ≡ []
          → AllGood F (cond b rows (default_rows a.id (reading_by a) a.defaults rows))
      go true e = g
      go false e = given a.defaults e

  defaults-good : (rest : List Rule) (rows : List Row) → AllSound F rest → defaults_fault rows rest ≡ [] → AllGood F rows → AllGood F (fold with_default rows rest)
  unfolding defaults_fault
  defaults-good [] rows s e g = g
  defaults-good (a ∷ rest) rows s e g =
      let p = both_pass _ _ e in
      defaults-good rest (with_default rows a) s.1 p.1 (default-good a rows s.0 p.0 g)

  pub found_sound : (p : Rule → Bool) (xs : List Rule) (a : Rule) → AllSound F xs → find p xs ≡ Some a → Sound F a
  found_sound p [] a s e = cc
  found_sound p (x ∷ xs) a s e = go (p x) (λ h. found_sound p xs a s.1 h) e
    where
      go : (b : Bool) → (find p xs ≡ Some a → Sound F a) → cond b (Some x) (find p xs) ≡ Some a → Sound F a
      go true rec h =
          let same : x ≡ a = cc in
          subst (Sound F) same s.0
      go false rec h = rec h

  module _ (s : Shape) (sound : AllSound F s.rules) where
    sound_of : (p : Rule → Bool) (a : Rule) → find p s.rules ≡ Some a → Sound F a
    sound_of p a e = found_sound p s.rules a sound e

    pending-good : (p : Option (Text × List Text)) (rows : List Row)
        → option_map_or (λ q. option_map_or (λ a. use_fault s.args_override_self a q.1 rows) (arg_by_id s.rules q.0) []) p [] ≡ []
        → AllGood F rows → AllGood F (settled_rows s.rules p rows)
    pending-good None rows e g = g
    pending-good (Some q) rows e g = by_id-good s.args_override_self (arg_by_id s.rules q.0) q.1 rows (sound_of _) e g

    settled-good : (h : Held) → settle_fault s.rules s.args_override_self h ≡ [] → AllGood F h.rows → AllGood F (settled s.rules h).rows
    settled-good h e g = pending-good h.pending h.rows e g

    reacted-good : (a : Rule) (values : List Text) (h : Held) → Sound F a → react_fault s.rules s.args_override_self a values h ≡ []
        → AllGood F h.rows → AllGood F (reacted s.rules a values h).rows
    reacted-good a values h t e g =
        let p = both_pass _ _ e in
        used-good s.args_override_self a values (settled s.rules h).rows t p.1 (settled-good h p.0 g)

    option-good : (a : Rule) (v : Option Text) (h : Held) → Sound F a → option_fault s.rules s.args_override_self a v h ≡ []
        → AllGood F h.rows → AllGood F (option_met s.rules a v h).0.rows
    option-good a None h t e g = settled-good h e g
    option-good a (Some v) h t e g = reacted-good a (v ∷ []) h t e g

    long-good : (o : Option Rule) (v : Option Text) (h : Held) → ((a : Rule) → o ≡ Some a → Sound F a)
        → long_fault s.rules s.args_override_self o v h ≡ [] → AllGood F h.rows → AllGood F (long_met s.rules o v h).0.rows
    long-good None v h t e g = g
    long-good (Some a) v h t e g = go (takes_values a) e
      where
        flag : (v : Option Text) → cond (is_some v) (kind.TooManyValues ∷ []) (react_fault s.rules s.args_override_self a [] h) ≡ []
            → AllGood F (flag_met s.rules a v h).0.rows
        flag None e = reacted-good a [] h (t a refl) e g
        flag (Some v) e = g

        go : (b : Bool) → cond b (option_fault s.rules s.args_override_self a v h)
            (cond (is_some v) (kind.TooManyValues ∷ []) (react_fault s.rules s.args_override_self a [] h)) ≡ []
            → AllGood F (cond b (option_met s.rules a v h) (flag_met s.rules a v h)).0.rows
        go true e = option-good a v h (t a refl) e g
        go false e = flag v e

    short-good : (o : Option Rule) (rest : Text) (h : Held) (fault : Held → Kinds) (follow : Held → Held × Outcome)
        → ((a : Rule) → o ≡ Some a → Sound F a) → ((k : Held) → fault k ≡ [] → AllGood F k.rows → AllGood F (follow k).0.rows)
        → short_fault s.rules s.args_override_self o rest h fault ≡ [] → AllGood F h.rows → AllGood F (short_met s.rules o rest h follow).0.rows
    short-good None rest h fault follow t rec e g = g
    short-good (Some a) rest h fault follow t rec e g = go (takes_values a) e
      where
        go : (b : Bool) → cond b (option_fault s.rules s.args_override_self a (attached_value rest) h)
            (or_else (react_fault s.rules s.args_override_self a [] h) (fault (reacted s.rules a [] h))) ≡ []
            → AllGood F (cond b (option_met s.rules a (attached_value rest) h) (follow (reacted s.rules a [] h))).0.rows
        go true e = option-good a (attached_value rest) h (t a refl) e g
        go false e =
            let p = both_pass _ _ e in
            rec (reacted s.rules a [] h) p.1 (reacted-good a [] h (t a refl) p.0 g)

    step-good : (x : Option ℕ) (flags : Text) (skip : ℕ) (so_far : Outcome) (h : Held) (fault : Text → ℕ → Held → Kinds)
        (follow : Text → ℕ → Outcome → Held → Held × Outcome)
        → ((f : Text) (n : ℕ) (o : Outcome) (k : Held) → fault f n k ≡ [] → AllGood F k.rows → AllGood F (follow f n o k).0.rows)
        → bundle_step_fault s.rules s.args_override_self x flags skip h fault ≡ [] → AllGood F h.rows
        → AllGood F (bundle_step s.rules x flags skip so_far h follow).0.rows
    step-good None flags skip so_far h fault follow rec e g = g
    step-good (Some x) flags zero so_far h fault follow rec e g =
        let rest = drop (length (encode_utf8 x)) flags in
        short-good (arg_by_short s.rules x) rest h (fault rest 0) (follow rest 0 done) (sound_of _) (λ k. rec rest 0 done k) e g
    step-good (Some x) flags (suc skip) so_far h fault follow rec e g = rec (drop (length (encode_utf8 x)) flags) skip so_far h e g

    bundle-good : (k : ℕ) (flags : Text) (skip : ℕ) (so_far : Outcome) (h : Held) → flags_fault s.rules s.args_override_self k flags skip h ≡ []
        → AllGood F h.rows → AllGood F (bundle_met s.rules k flags skip so_far h).0.rows
    unfolding flags_fault bundle_met
    bundle-good zero flags skip so_far h e g = g
    bundle-good (suc k) flags skip so_far h e g =
        step-good (slice_get (chars flags) 0) flags skip so_far h (flags_fault s.rules s.args_override_self k) (bundle_met s.rules k)
        (λ f n o l e g. bundle-good k f n o l e g) e g

    plain-good : (waiting : Waiting) (word : Text) (h : Held) → AllGood F h.rows → AllGood F (plain_word s.rules waiting word h).0.rows
    plain-good idle word h g = g
    plain-good positional word h g = g
    plain-good (option id) word h g = go (arg_by_id s.rules id)
      where
        go : (o : Option Rule) → AllGood F (option_word o id word h).0.rows
        go None = g
        go (Some a) = g

    after-good : (waiting : Waiting) (word : Text) (h : Held) (o : Outcome) → AllGood F h.rows → AllGood F (after_flag s.rules waiting word h o).0.rows
    after-good waiting word h done g = g
    after-good waiting word h (waits id) g = g
    after-good waiting word h plain g = plain-good waiting word h g
    after-good waiting word h refused g = plain-good waiting word h g

    other-good : (met : Option Text) (waiting : Waiting) (position : ℕ) (word : Text) (h : Held) → other_fault s met word h ≡ []
        → AllGood F h.rows → AllGood F (subcommand_or_other s.rules met waiting position word h).0.rows
    other-good (Some name) waiting position word h e g = g
    other-good None waiting position word h e g = go (bytes_eq word (45 ∷ 45 ∷ [])) e
      where
        short : (f : Option Text) → option_map_or (λ flags. bundle_fault s.rules s.args_override_self flags h) f [] ≡ []
            → AllGood F (short_or_plain s.rules waiting word f h).0.rows
        short None e = plain-good waiting word h g
        short (Some flags) e =
            let b = bundle s.rules flags h in
            after-good waiting word b.0 b.1 (bundle-good (length flags) flags h.skip plain (record h { skip = 0 }) e g)

        long : (l : Option (Text × Option Text)) → flag_word_fault s.rules s.args_override_self l word h ≡ []
            → AllGood F (long_or_other s.rules waiting word l h).0.rows
        long None e = short (short_of word) e
        long (Some p) e =
            let m = long_met s.rules (arg_by_long s.rules p.0) p.1 h in
            after-good waiting word m.0 m.1 (long-good (arg_by_long s.rules p.0) p.1 h (sound_of _) e g)

        go : (b : Bool) → cond b [] (flag_word_fault s.rules s.args_override_self (long_of word) word h) ≡ []
            → AllGood F (cond b (h, trailing position) (long_or_other s.rules waiting word (long_of word) h)).0.rows
        go true e = g
        go false e = long (long_of word) e

    met-good : (names : Names) (is_trailing : Bool) (waiting : Waiting) (position : ℕ) (word : Text) (h : Held)
        → cond is_trailing [] (other_fault s (subcommand_met names waiting word) word h) ≡ [] → AllGood F h.rows
        → AllGood F (word_met s.rules names is_trailing waiting position word h).0.rows
    met-good names true waiting position word h e g = g
    met-good names false waiting position word h e g = other-good (subcommand_met names waiting word) waiting position word h e g

    positional-good : (o : Option Rule) (word : Text) (w : Walk) (h : Held)
        → option_map_or (λ a. positional_fault s.rules s.args_override_self a h) o (stray_fault s) ≡ []
        → AllGood F h.rows → AllGood F (to_positional s.rules o word w h).held.rows
    positional-good None word w h e g = g
    positional-good (Some a) word w h e g = go (is_pending a h.pending && takes_several a) e
      where
        go : (b : Bool) → cond b [] (settle_fault s.rules s.args_override_self h) ≡ [] → AllGood F (pushed a.id word (cond b h (settled s.rules h))).rows
        go true e = g
        go false e = settled-good h e g

    after_step-good : (word : Text) (w : Walk) (h : Held) (step : Step) → step_fault s w.position h step ≡ []
        → AllGood F h.rows → AllGood F (after_step s.rules word w h step).held.rows
    after_step-good word w h (next waiting) e g = g
    after_step-good word w h (trailing position) e g = g
    after_step-good word w h (subcommand name) e g = g
    after_step-good word w h value e g = positional-good (arg_by_index s.rules w.position) word w h e g

    walked-good : (names : Names) (w : Walk) (word : Text) → turn_fault s names w word ≡ [] → AllGood F w.held.rows
        → AllGood F (walked s.rules names w word).held.rows
    unfolding walked
    walked-good names w word e g = go w.stopped e
      where
        go : (stopped : Option (Text × List Text))
            → cond (is_some stopped) [] (or_else (word_fault s names w.is_trailing w.waiting word w.held)
            (step_fault s w.position (word_met s.rules names w.is_trailing w.waiting w.position word w.held).0
            (word_met s.rules names w.is_trailing w.waiting w.position word w.held).1)) ≡ []
            → AllGood F (walked_from s.rules names stopped w word).held.rows
        go (Some p) e = g
        go None e =
            let p = both_pass _ _ e in
            let met = word_met s.rules names w.is_trailing w.waiting w.position word w.held in
            after_step-good word w met.0 met.1 p.1 (met-good names w.is_trailing w.waiting w.position word w.held p.0 g)

    walk-good : (names : Names) (w : Walk) (words : List Text) → walk_fault s names w words ≡ [] → AllGood F w.held.rows
        → AllGood F (fold (walked s.rules names) w words).held.rows
    unfolding walk_fault
    walk-good names w [] e g = g
    walk-good names w (x ∷ xs) e g =
        let p = both_pass _ _ e in
        walk-good names (walked s.rules names w x) xs p.1 (walked-good names w x p.0 g)

    -- the rows at the end of a level with no fault
    pub level-good : (names : Names) (h : Held) (words : List Text) (has_subcommand : Bool) (below : Kinds)
        → level_fault s names h words has_subcommand below ≡ [] → AllGood F h.rows
        → AllGood F (finished s.rules (walk s.rules names h words).held)
    level-good names h words has_subcommand below e g =
        let a = both_pass _ _ e in
        let b = both_pass _ _ a.1 in
        let c = both_pass _ _ b.1 in
        let d = both_pass _ _ c.1 in
        let end = (walk s.rules names h words).held in
        defaults-good s.rules (settled s.rules end).rows sound d.0 (settled-good end c.0 (walk-good names (walk_from h) words a.0 g))

-- ---- the rows that are there

-- the row of an id, if one is there
pub row_found : (F : Text → Reading → Text → Type 0) (p : Row → Bool) (rows : List Row) → AllGood F rows → list_any p rows ≡ true
    → (r : Row) × (find p rows ≡ Some r) × (p r ≡ true) × Good F r
row_found F p [] g e = absurd (true≢false (sym e))
row_found F p (r ∷ rs) g e = go (p r) refl (row_found F p rs g.1) e
  where
    go : (b : Bool) → p r ≡ b → (list_any p rs ≡ true → (x : Row) × (find p rs ≡ Some x) × (p x ≡ true) × Good F x) → (b || list_any p rs) ≡ true
        → (x : Row) × (cond b (Some r) (find p rs) ≡ Some x) × (p x ≡ true) × Good F x
    go true is rec e = (r, refl, is, g.0)
    go false is rec e = rec e

-- what was given has a row
pub given_row : (id : Text) (rows : List Row) → is_given id rows ≡ true → has_row id rows ≡ true
given_row id [] e = e
given_row id (r ∷ rs) e = go (bytes_eq r.id id) (given_row id rs) e
  where
    go : (b : Bool) → (is_given id rs ≡ true → has_row id rs ≡ true)
        → option_map_or (λ (x : Row). explicit_source x.source) (cond b (Some r) (find (λ (x : Row). bytes_eq x.id id) rs)) false ≡ true
        → (b || has_row id rs) ≡ true
    go true rec e = refl
    go false rec e = rec e

row_made : (id : Text) (how : Reading) (s : ValueSource) (values : List Text) (rows : List Row) → has_row id (with_values id how s values rows) ≡ true
row_made id how s values [] = rw ((bytes_eq-Decides id id).1 refl) refl
row_made id how s values (r ∷ rs) = go (bytes_eq r.id id) refl (row_made id how s values rs)
  where
    go : (b : Bool) → bytes_eq r.id id ≡ b → has_row id (with_values id how s values rs) ≡ true
        → has_row id (cond b (more_values s values r ++ rs) (r ∷ with_values id how s values rs)) ≡ true
    go true is rec = rw is refl
    go false is rec = rw is rec

row_kept : (id other : Text) (how : Reading) (s : ValueSource) (values : List Text) (rows : List Row) → has_row id rows ≡ true
    → has_row id (with_values other how s values rows) ≡ true
row_kept id other how s values [] e = absurd (true≢false (sym e))
row_kept id other how s values (r ∷ rs) e = go (bytes_eq r.id other) (row_kept id other how s values rs)
  where
    later : (b : Bool) → (has_row id rs ≡ true → has_row id (with_values other how s values rs) ≡ true) → (b || has_row id rs) ≡ true
        → (b || has_row id (with_values other how s values rs)) ≡ true
    later true rec h = refl
    later false rec h = rec h

    go : (b : Bool) → (has_row id rs ≡ true → has_row id (with_values other how s values rs) ≡ true)
        → has_row id (cond b (more_values s values r ++ rs) (r ∷ with_values other how s values rs)) ≡ true
    go true rec = e
    go false rec = later (bytes_eq r.id id) rec e

row_stays : (id : Text) (a : Rule) (rows : List Row) → has_row id rows ≡ true → has_row id (with_default rows a) ≡ true
row_stays id a rows e = go (has_row a.id rows) a.defaults
  where
    go : (b : Bool) (ds : List Text) → has_row id (cond b rows (default_rows a.id (reading_by a) ds rows)) ≡ true
    go true ds = e
    go false [] = e
    go false (d ∷ ds) = row_kept id a.id (reading_by a) DefaultValue (d ∷ ds) rows e

rows_stay : (id : Text) (rest : List Rule) (rows : List Row) → has_row id rows ≡ true → has_row id (fold with_default rows rest) ≡ true
rows_stay id [] rows e = e
rows_stay id (a ∷ rest) rows e = rows_stay id rest (with_default rows a) (row_stays id a rows e)

-- the first argument has a row, if it has a default
pub default_row : (a : Rule) (d : Text) (ds : List Text) (rest : List Rule) (rows : List Row) → a.defaults ≡ d ∷ ds
    → has_row a.id (fold with_default rows (a ∷ rest)) ≡ true
default_row a d ds rest rows is = rows_stay a.id rest (with_default rows a) (go (has_row a.id rows) refl)
  where
    go : (b : Bool) → has_row a.id rows ≡ b → has_row a.id (cond b rows (default_rows a.id (reading_by a) a.defaults rows)) ≡ true
    go true e = e
    go false e = subst (λ (v : List Text). has_row a.id (default_rows a.id (reading_by a) v rows) ≡ true) (sym is)
        (row_made a.id (reading_by a) DefaultValue (d ∷ ds) rows)
