-- The items of a body after the checks of their fields, before and after they are counted.
use Rattle.std.proofs.Common.{◌≡◌, ◌==◌, List, map, length, nat_lt, Bool, true, false, cond, Option, Some, None, option_map, option_and_then, Result, Ok, Err, refl, sym, ap, ◌∙◌}
use Rattle.std.proofs.lemmas.List.{length-map}
use Rattle.serde_json.specs.Data.{Data}
use Rattle.lei_code.specs.Texts.{Body}
use Rattle.item_fields.specs.Items.{ready}
use Rattle.item_fields.specs.declared.item.RawItem.{RawItem}
use Rattle.lei_records.specs.declared.item.Readied.{Readied}
use Rattle.lei_records.specs.declared.rules.Rules.{Rules}
use Rattle.register_words.specs.declared.malformed.Malformed.TheVariants.{NoItems, TooManyItems}
use Rattle.register_words.specs.declared.malformed.Malformed.{Malformed}
use Rattle.upload_format.specs.Bodies.{if_countable, of_items, of_value, ready_each, ready_upload, upload, upload_items, value_of}

by_tests : (rules : Rules) (raws : List RawItem) (none many : Bool)
    → ready_each rules (cond none (Err NoItems) (cond many (Err TooManyItems) (Ok raws))) ≡ cond none (Err NoItems) (cond many (Err TooManyItems) (Ok (map (ready rules) raws)))
by_tests rules raws true many = refl
by_tests rules raws false true = refl
by_tests rules raws false false = refl

-- the checks of fields change no count
counted : (rules : Rules) (raws : List RawItem) → ready_each rules (if_countable raws) ≡ if_countable (map (ready rules) raws)
counted rules raws =
    by_tests rules raws (length raws == 0) (nat_lt 5_000 (length raws))
    ∙ ap (λ n. cond (n == 0) (Err NoItems) (cond (nat_lt 5_000 n) (Err TooManyItems) (Ok (map (ready rules) raws)))) (sym (length-map raws (ready rules)))

counted_items : (rules : Rules) (found : Option (List RawItem)) (items : List Readied) → option_map (map (ready rules)) found ≡ Some items
    → ready_each rules (of_items found) ≡ if_countable items
counted_items rules None items is = cc
counted_items rules (Some raws) items is = (let same : map (ready rules) raws ≡ items = cc in counted rules raws ∙ ap if_countable same)

counted_value : (rules : Rules) (value : Option Data) (items : List Readied) → option_map (map (ready rules)) (option_and_then upload_items value) ≡ Some items
    → ready_each rules (of_value value) ≡ if_countable items
counted_value rules None items is = cc
counted_value rules (Some value) items is = counted_items rules (upload_items value) items is

-- the items of a body before they are counted
pub ready-counted : (rules : Rules) (body : Body) (items : List Readied) → option_map (map (ready rules)) (option_and_then upload_items (value_of body)) ≡ Some items
    → ready_upload rules body ≡ if_countable items
unfolding upload
ready-counted rules body items is = counted_value rules (value_of body) items is

raws_of : (rules : Rules) (read : Result (List RawItem) Malformed) (items : List Readied) → ready_each rules read ≡ Ok items
    → (raws : List RawItem) × (read ≡ Ok raws) × (items ≡ map (ready rules) raws)
raws_of rules (Ok raws) items is = (let same : items ≡ map (ready rules) raws = cc in (raws, refl, same))
raws_of rules (Err fault) items is = cc

-- the items as they were sent
pub ready-raws : (rules : Rules) (body : Body) (items : List Readied) → ready_upload rules body ≡ Ok items
    → (raws : List RawItem) × (upload body ≡ Ok raws) × (items ≡ map (ready rules) raws)
ready-raws rules body items is = raws_of rules (upload body) items is

fault_in : (rules : Rules) (read : Result (List RawItem) Malformed) (fault : Malformed) → ready_each rules read ≡ Err fault → read ≡ Err fault
fault_in rules (Ok raws) fault is = cc
fault_in rules (Err first) fault is = cc

-- the fault of a body is that of its items as they were sent
pub ready-fault : (rules : Rules) (body : Body) (fault : Malformed) → ready_upload rules body ≡ Err fault → upload body ≡ Err fault
ready-fault rules body fault is = fault_in rules (upload body) fault is
