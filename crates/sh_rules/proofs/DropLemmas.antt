-- What a function drops, by the entry that is there.
use Rattle.std.proofs.Common.{◌≡◌, ℕ, ◌<◌, Bool, true, false, ◌&&◌, ◌||◌, Option, Some, None, List, [], ◌∷◌, length, get_or, option_map, unwrap_or, true≢false, refl, sym, ap, ap₂, ◌∙◌, subst}
use Rattle.std.specs.List.{list_all}
use Rattle.std.proofs.lemmas.Option.{slice_get_within, slice_get-get_or}
use Rattle.std.proofs.lemmas.Slice.Eq.{bytes_eq-Decides}
use Rattle.sh_tree.specs.standard.program.Syntax.{Text}
use Rattle.sh_runs.specs.standard.runs.Environment.{is_one_of}
use Rattle.sh_domain.specs.declared.certificate.FunctionEntry.{FunctionEntry}
use Rattle.sh_domain.specs.declared.rows.RowId.{RowId}
use Rattle.sh_domain.specs.Certificates.{drops_of, in_byte_order, names_at}
use Rattle.sh_domain.specs.Faults.{are_among}
use Rattle.sh_domain.specs.KeptRows.{KeptRows, holds_at}
use Rattle.sh_domain.specs.Knowledge.{AreNumbered, at_number}
use Rattle.sh_domain.specs.Names.{number_of}
use Rattle.sh_domain.specs.Operands.{Names, no_names}
use Rattle.sh_domain.specs.Slots.{entry_of}
use Rattle.sh_domain.proofs.KnowledgeLemmas.{in_row, stands_there}
use Rattle.sh_rules.specs.declared.claims.Claims.{Claims}
use Rattle.sh_rules.specs.Asking.{one_function, one_variable}
use Rattle.sh_rules.specs.Settings.{Setting, certificate}
use Rattle.sh_rules.specs.Walks.{setting}
use Rattle.sh_rules.proofs.SlotLemmas.{entries}

-- Rows without names

none_there : (ts : List Text) → ((t : Text) → is_one_of ts t ≡ false) → list_all (is_one_of []) ts ≡ true
none_there [] h = refl
none_there (t ∷ ts) h =
    let first : is_one_of (t ∷ ts) t ≡ true = ap (λ b. b || is_one_of ts t) ((bytes_eq-Decides t t).1 refl) in
    absurd (true≢false (sym first ∙ h t))

some_there : (ts : List Text) (t : Text) → is_one_of ts t ≡ true → list_all (is_one_of []) ts ≡ false
some_there [] t h = absurd (true≢false (sym h))
some_there (u ∷ us) t h = refl

pub row_empty : (names : List Text) → AreNumbered names → (rows : KeptRows) (id : RowId) (b : Bool) → rows.count ≡ length names
    → (b ≡ true → (k : ℕ) → k < rows.count → holds_at rows.rows id.index k ≡ false)
    → (b ≡ false → (k : ℕ) × (k < rows.count) × (holds_at rows.rows id.index k ≡ true))
    → b ≡ list_all (is_one_of []) (names_at (in_byte_order names) rows id)
unfolding at_number
row_empty names h rows id true sized none some = sym (none_there _ (λ t. in_row names h rows id t ∙ by_number t (number_of names t) refl))
  where
    by_number : (t : Text) (o : Option ℕ) → number_of names t ≡ o → at_number (λ k. holds_at rows.rows id.index k) o ≡ false
    by_number t None is = refl
    by_number t (Some k) is = none refl k (subst (λ n. k < n) (sym sized) (slice_get_within names k t (stands_there names k t is)))
row_empty names h rows id false sized none some =
    let it = some refl in
    let t : Text = get_or names it.0 [] in
    let own : number_of names t ≡ Some it.0 = h.own it.0 t (slice_get-get_or names it.0 [] (subst (λ n. it.0 < n) sized it.1)) in
    sym (some_there _ t (in_row names h rows id t ∙ ap (at_number (λ k. holds_at rows.rows id.index k)) own ∙ it.2))

-- By the entry of the function

drops_some : (x : Setting) (f : Text) (e : FunctionEntry) → entry_of x.kept x.functions f ≡ Some e
    → (certificate x).drops f ≡ drops_of (in_byte_order x.names) x.kept.rows e.drops
drops_some x f e s =
    (entries x).drops f ∙ ap (λ o. unwrap_or (option_map (λ (d : FunctionEntry). drops_of (in_byte_order x.names) x.kept.rows d.drops) o) no_names) s

drops_none : (x : Setting) (f : Text) → entry_of x.kept x.functions f ≡ None → (certificate x).drops f ≡ no_names
drops_none x f s =
    (entries x).drops f ∙ ap (λ o. unwrap_or (option_map (λ (d : FunctionEntry). drops_of (in_byte_order x.names) x.kept.rows d.drops) o) no_names) s

alone : (b : Bool) → b ≡ (b && true)
alone true = refl
alone false = refl

module _ (c : Claims) (f name : Text) where
  pub variable_there : (e : FunctionEntry) (b : Bool) → AreNumbered c.names.now → entry_of (setting c).kept (setting c).functions f ≡ Some e
      → (AreNumbered c.names.now → b ≡ is_one_of (drops_of (in_byte_order c.names.now) c.certificate.now.rows e.drops).vars name)
      → b ≡ are_among (one_variable name) ((certificate (setting c)).drops f)
  unfolding are_among setting
  variable_there e b h s t =
      alone b ∙ alone (b && true) ∙ ap (λ v. (v && true) && true) (t h) ∙ ap (are_among (one_variable name)) (sym (drops_some (setting c) f e s))

  pub variable_away : entry_of (setting c).kept (setting c).functions f ≡ None → false ≡ are_among (one_variable name) ((certificate (setting c)).drops f)
  unfolding are_among
  variable_away s = ap (are_among (one_variable name)) (sym (drops_none (setting c) f s))

  pub function_there : (e : FunctionEntry) (b : Bool) → AreNumbered c.names.now → entry_of (setting c).kept (setting c).functions f ≡ Some e
      → (AreNumbered c.names.now → b ≡ is_one_of (drops_of (in_byte_order c.names.now) c.certificate.now.rows e.drops).functions name)
      → b ≡ are_among (one_function name) ((certificate (setting c)).drops f)
  unfolding are_among setting
  function_there e b h s t = alone b ∙ ap (λ v. v && true) (t h) ∙ ap (are_among (one_function name)) (sym (drops_some (setting c) f e s))

  pub function_away : entry_of (setting c).kept (setting c).functions f ≡ None → false ≡ are_among (one_function name) ((certificate (setting c)).drops f)
  unfolding are_among
  function_away s = ap (are_among (one_function name)) (sym (drops_none (setting c) f s))

-- all that another function drops

module _ (c : Claims) (f callee : Text) where
  pub all_there : (called e : FunctionEntry) (b : Bool) → AreNumbered c.names.now → c.certificate.now.rows.count ≡ length c.names.now
      → entry_of (setting c).kept (setting c).functions callee ≡ Some called → entry_of (setting c).kept (setting c).functions f ≡ Some e
      → ((names : List Text) → AreNumbered names → c.certificate.now.rows.count ≡ length names
      → b ≡ are_among (drops_of (in_byte_order names) c.certificate.now.rows called.drops) (drops_of (in_byte_order names) c.certificate.now.rows e.drops))
      → b ≡ are_among ((certificate (setting c)).drops callee) ((certificate (setting c)).drops f)
  unfolding setting
  all_there called e b h sized s t test =
      test c.names.now h sized ∙ ap₂ are_among (sym (drops_some (setting c) callee called s)) (sym (drops_some (setting c) f e t))

  pub all_empty : (called : FunctionEntry) (v w : Bool) → AreNumbered c.names.now → c.certificate.now.rows.count ≡ length c.names.now
      → entry_of (setting c).kept (setting c).functions callee ≡ Some called → entry_of (setting c).kept (setting c).functions f ≡ None
      → ((names : List Text) → AreNumbered names → c.certificate.now.rows.count ≡ length names
      → v ≡ list_all (is_one_of []) (names_at (in_byte_order names) c.certificate.now.rows called.drops.vars))
      → ((names : List Text) → AreNumbered names → c.certificate.now.rows.count ≡ length names
      → w ≡ list_all (is_one_of []) (names_at (in_byte_order names) c.certificate.now.rows called.drops.functions))
      → (v && w) ≡ are_among ((certificate (setting c)).drops callee) ((certificate (setting c)).drops f)
  unfolding are_among setting
  all_empty called v w h sized s t vars functions =
      ap₂ (λ a b. a && b) (vars c.names.now h sized) (functions c.names.now h sized)
      ∙ ap₂ are_among (sym (drops_some (setting c) callee called s)) (sym (drops_none (setting c) f t))

  pub all_short : (called : FunctionEntry) (v : Bool) → v ≡ false → AreNumbered c.names.now → c.certificate.now.rows.count ≡ length c.names.now
      → entry_of (setting c).kept (setting c).functions callee ≡ Some called → entry_of (setting c).kept (setting c).functions f ≡ None
      → ((names : List Text) → AreNumbered names → c.certificate.now.rows.count ≡ length names
      → v ≡ list_all (is_one_of []) (names_at (in_byte_order names) c.certificate.now.rows called.drops.vars))
      → v ≡ are_among ((certificate (setting c)).drops callee) ((certificate (setting c)).drops f)
  unfolding are_among setting
  all_short called v none h sized s t vars =
      let rest : Bool = list_all (is_one_of []) (names_at (in_byte_order c.names.now) c.certificate.now.rows called.drops.functions) in
      none ∙ sym (ap (λ b. b && rest) none) ∙ ap (λ b. b && rest) (vars c.names.now h sized)
      ∙ ap₂ are_among (sym (drops_some (setting c) callee called s)) (sym (drops_none (setting c) f t))

  pub all_away : entry_of (setting c).kept (setting c).functions callee ≡ None → true ≡ are_among ((certificate (setting c)).drops callee) ((certificate (setting c)).drops f)
  unfolding are_among
  all_away s = ap (λ (d : Names). are_among d ((certificate (setting c)).drops f)) (sym (drops_none (setting c) callee s))
