-- One message more, of those that a page has.
use Rattle.std.proofs.Common.{◌≡◌, ◌∙◌, sym, ap, ℕ, ◌+◌, ◌<◌, length, get_or, take, map, option_map, Bool, true, false, List, [], ◌∷◌, ◌++◌, Option, Some, None, refl, if◌then◌else◌}
use Rattle.std.proofs.lemmas.List.{map_more}
use Rattle.sled_oracle.specs.declared.history.Message.{Message as Held}
use Rattle.sled_oracle.specs.Seen.{seen}
use Rattle.sled_codec.specs.History.{Message, begins_page, later_or, last_beginning}

later_or-both : (b : Bool) (m : Message) (last earlier : Option Message) → later_or (if b then Some m else last) earlier ≡ (if b then Some m else later_or last earlier)
later_or-both true m last earlier = refl
later_or-both false m last earlier = refl

pub last_beginning-push : (ms : List Message) (m : Message) → last_beginning (ms ++ m ∷ []) ≡ (if begins_page m.kind then Some m else last_beginning ms)
last_beginning-push [] m = refl
last_beginning-push (x ∷ ms) m =
    ap (λ (o : Option Message). later_or o (if begins_page x.kind then Some x else None)) (last_beginning-push ms m)
    ∙ later_or-both (begins_page m.kind) m (last_beginning ms) (if begins_page x.kind then Some x else None)

mapped : (b : Bool) (m : Held) (last : Option Held) → option_map seen (if b then Some m else last) ≡ (if b then Some (seen m) else option_map seen last)
mapped true m last = refl
mapped false m last = refl

-- a turn of the search for the last beginning
pub last_beginning_step : (ms : List Held) (i : ℕ) (d : Held) (b : Bool) (last : Option Held) → i < length ms → b ≡ begins_page (get_or ms i d).kind → option_map seen last ≡ last_beginning (map seen (take i ms)) → option_map seen (if b then Some (get_or ms i d) else last) ≡ last_beginning (map seen (take (i + 1) ms))
last_beginning_step ms i d b last within is so_far =
    let m : Held = get_or ms i d in
    mapped b m last
    ∙ ap (λ (o : Option Message). if b then Some (seen m) else o) so_far
    ∙ ap (λ c. if c then Some (seen m) else last_beginning (map seen (take i ms))) is
    ∙ sym (last_beginning-push (map seen (take i ms)) (seen m))
    ∙ ap last_beginning (sym (map_more seen ms i d within))
