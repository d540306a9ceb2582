-- What a log keeps of keys, by its entries and by their marks.
use Rattle.std.proofs.Common.{◌≡◌, ℕ, Bool, true, false, cond, ◌||◌, List, [], ◌∷◌, ◌++◌, map, Option, Some, None, refl, sym, ap}
use Rattle.std.specs.Option.{option_map, option_and_then, option_to_list}
use Rattle.std.specs.List.{find, list_any}
use Rattle.std.specs.Str.{bytes_eq}
use Rattle.lg_shard.specs.Shown.{kept_of}
use Rattle.lg_types.specs.declared.records.Entry.{Entry}
use Rattle.lg_types.specs.declared.records.KeyMark.{KeyMark}
use Rattle.lg_types.specs.Known.{kept, marking, markings, is_marking_of, is_mark_of}
use Rattle.lg_weigh.specs.Weighing.{kept_in, marked_as, kept_of_entry}

module _ (g : List Entry) (key : List ℕ) (e : Entry) (rest : option_map kept_of (find (is_marking_of key) (markings g)) ≡ kept_in g key) where
  by_test : (mark : KeyMark) → e.mark ≡ Some mark → (b : Bool)
      → option_map kept_of (cond b (Some (marking e.id mark)) (find (is_marking_of key) (markings g))) ≡ option_and_then kept_of_entry (cond (b || false) (Some e) (kept g key))
  by_test mark is true = sym (ap (marked_as e.id) is)
  by_test mark is false = rest

  by_mark : (m : Option KeyMark) → e.mark ≡ m
      → option_map kept_of (find (is_marking_of key) (map (marking e.id) (option_to_list m) ++ markings g)) ≡ option_and_then kept_of_entry (cond (list_any (is_mark_of key) (option_to_list m)) (Some e) (kept g key))
  by_mark None is = rest
  by_mark (Some mark) is = by_test mark is (bytes_eq mark.key key)

-- the first mark of a key is that of the first entry that has the key
pub kept_mark : (g : List Entry) (key : List ℕ) → option_map kept_of (find (is_marking_of key) (markings g)) ≡ kept_in g key
kept_mark [] key = refl
kept_mark (e ∷ g) key = by_mark g key e (kept_mark g key) e.mark refl
