-- Two numberings of one script have the same names, and as many; so the same certificates fit.
use Rattle.std.proofs.Common.{◌≡◌, ℕ, ◌≤◌, Bool, true, false, nat_eq, ◌&&◌, ◌||◌, List, [], ◌∷◌, ◌++◌, map, length, Option, Some, None, refl, sym, ◌∙◌, ap, subst, arith}
use Rattle.std.specs.List.{flat_map, list_any, list_all}
use Rattle.std.specs.Str.{bytes_eq}
use Rattle.std.proofs.lemmas.List.Folds.{list_any-append}
use Rattle.std.proofs.lemmas.List.Sorted.{list_any-IsPermutation}
use Rattle.sh_tree.specs.declared.tree.Script.{Script}
use Rattle.sh_tree.specs.standard.program.Syntax.{Text}
use Rattle.sh_tree.specs.Commands.{commands_of}
use Rattle.sh_runs.specs.standard.runs.Environment.{is_one_of}
use Rattle.sh_domain.specs.CompactForms.{GivenSheet, Full, Compact}
use Rattle.sh_domain.specs.CompactReading.{loop_numbers, turns_fit, given_fits}
use Rattle.sh_domain.specs.Facts.{Claim, Unreached, Claimed, Declared}
use Rattle.sh_domain.specs.Names.{IsNumbering, IsInTextOrder, numbering, first_names, are_distinct}
use Rattle.sh_domain.specs.Operands.{Names}
use Rattle.sh_domain.specs.Reading.{are_known, sets_fit, claim_fits, head_fits, command_fits, commands_fit, function_fits, fits}
use Rattle.sh_domain.specs.Sheets.{Sheet, CommandClaims, FunctionClaims}
use Rattle.sh_domain.specs.Sights.{Sight, in_command}
use Rattle.sh_accept.proofs.DistinctLemmas.{in_fold, distinct_fold, no_longer}

-- The names in the text

any_mapped : (u : Text) (xs : List Sight) → is_one_of (map (λ x. x.name) xs) u ≡ list_any (λ x. bytes_eq x.name u) xs
any_mapped u [] = refl
any_mapped u (x ∷ xs) = ap (λ c. bytes_eq x.name u || c) (any_mapped u xs)

any_inside : {A B : Type 0} (p : B → Bool) (f : A → List B) (xs : List A) → list_any p (flat_map f xs) ≡ list_any (λ x. list_any p (f x)) xs
any_inside p f [] = refl
any_inside p f (x ∷ xs) = list_any-append p (f x) (flat_map f xs) ∙ ap (λ c. list_any p (f x) || c) (any_inside p f xs)

any_seen : (b : List ℕ) (t : Script) (p : Sight → Bool) (seen : List Sight) → IsInTextOrder b t seen → list_any p seen ≡ list_any (λ c. list_any p (in_command b c)) (commands_of t)
any_seen b t p seen o =
    sym (list_any-IsPermutation p (flat_map (in_command b) o.commands) seen o.all)
    ∙ any_inside p (in_command b) o.commands
    ∙ sym (list_any-IsPermutation (λ c. list_any p (in_command b c)) (commands_of t) o.commands o.all_commands)

any_numbered : (d : Declared) (seen : List Sight) (u : Text) → is_one_of (numbering d seen) u ≡ (is_one_of (first_names ++ d.names) u || list_any (λ x. bytes_eq x.name u) seen)
any_numbered d seen u =
    in_fold [] ((first_names ++ d.names) ++ map (λ x. x.name) seen) u
    ∙ list_any-append (λ n. bytes_eq n u) (first_names ++ d.names) (map (λ x. x.name) seen)
    ∙ ap (λ c. is_one_of (first_names ++ d.names) u || c) (any_mapped u seen)

pub same_names : (b : List ℕ) (t : Script) (d : Declared) (ns ms : List Text) → IsNumbering b t d ns → IsNumbering b t d ms → (u : Text) → is_one_of ns u ≡ is_one_of ms u
same_names b t d ns ms n m u =
    ap (λ names. is_one_of names u) n.each_once
    ∙ any_numbered d n.seen u
    ∙ ap (λ c. is_one_of (first_names ++ d.names) u || c) (any_seen b t (λ x. bytes_eq x.name u) n.seen n.in_order ∙ sym (any_seen b t (λ x. bytes_eq x.name u) m.seen m.in_order))
    ∙ sym (any_numbered d m.seen u)
    ∙ ap (λ names. is_one_of names u) (sym m.each_once)

no_more : (b : List ℕ) (t : Script) (d : Declared) (ns ms : List Text) → IsNumbering b t d ns → IsNumbering b t d ms → length ns ≤ length ms
unfolding are_distinct
no_more b t d ns ms n m =
    no_longer ns ms (subst (λ names. are_distinct names ≡ true) (sym n.each_once) (distinct_fold [] (first_names ++ d.names ++ map (λ x. x.name) n.seen) refl))
    (λ u h. sym (same_names b t d ns ms n m u) ∙ h)

pub same_count : (b : List ℕ) (t : Script) (d : Declared) (ns ms : List Text) → IsNumbering b t d ns → IsNumbering b t d ms → length ns ≡ length ms
same_count b t d ns ms n m = let one = no_more b t d ns ms n m in let other = no_more b t d ms ns m n in omega arith

-- What fits

module _ (ns ms : List Text) (same : (u : Text) → is_one_of ns u ≡ is_one_of ms u) where
  known : (ts : List Text) → are_known ns ts ≡ are_known ms ts
  known [] = refl
  known (t ∷ ts) = λ i. same t i && known ts i

  sets : (d : Names) → sets_fit ns d ≡ sets_fit ms d
  sets d = λ i. known d.vars i && known d.functions i

  claim : (c : Claim) → claim_fits ns c ≡ claim_fits ms c
  unfolding claim_fits
  claim Unreached = refl
  claim (Claimed vars functions args) = λ i. known vars i && known functions i

  head : (l : Bool) (h : Option Claim) → head_fits ns l h ≡ head_fits ms l h
  unfolding head_fits
  head true (Some h) = claim h
  head true None = refl
  head false (Some h) = refl
  head false None = refl

  command : (l : Bool) (c : CommandClaims) → command_fits ns l c ≡ command_fits ms l c
  command l c = λ i. claim c.before i && claim c.zero i && claim c.nonzero i && head l c.head i

  commands : (ls : List Bool) (cs : List CommandClaims) → commands_fit ns ls cs ≡ commands_fit ms ls cs
  unfolding commands_fit
  commands [] [] = refl
  commands [] (c ∷ cs) = refl
  commands (l ∷ ls) [] = refl
  commands (l ∷ ls) (c ∷ cs) = λ i. command l c i && commands ls cs i

  each_function : (fs : List FunctionClaims) → list_all (function_fits ns) fs ≡ list_all (function_fits ms) fs
  each_function [] = refl
  each_function (f ∷ fs) = λ i. (claim f.before i && sets f.drops i && claim f.zero i && claim f.nonzero i) && each_function fs i

  turns : (ks : List ℕ) (hs : List (ℕ × Claim)) → turns_fit ns ks hs ≡ turns_fit ms ks hs
  unfolding turns_fit
  turns [] [] = refl
  turns [] (h ∷ hs) = refl
  turns (k ∷ ks) [] = refl
  turns (k ∷ ks) (h ∷ hs) = λ i. nat_eq k h.0 && claim h.1 i && turns ks hs i

  pub same_fit : (ls : List Bool) (count : ℕ) (c : Sheet) → fits ns ls count c ≡ fits ms ls count c
  same_fit ls count c = λ i. commands ls c.commands i && (nat_eq (length c.functions) count && each_function c.functions i)

  pub same_given_fit : (ls : List Bool) (count : ℕ) (g : GivenSheet) → given_fits ns ls count g ≡ given_fits ms ls count g
  unfolding given_fits
  same_given_fit ls count (Full c) = same_fit ls count c
  same_given_fit ls count (Compact k) =
      λ i. nat_eq k.commands (length ls) && claim k.start i && turns (loop_numbers 1 ls) k.heads i && (nat_eq (length k.functions) count && each_function k.functions i)
