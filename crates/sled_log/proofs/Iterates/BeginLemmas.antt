-- What is left for an iterator that begins: all segments that begin below the end of the tail.
use Rattle.std.proofs.Common.{◌≡◌, ◌∙◌, ◌≤◌, ℕ, ℤ, Bool, false, List, [], length, drop, Option, Some, None, unwrap_or, refl, sym, ap, subst, arith}
use Rattle.std.specs.List.{Contains}
use Rattle.sled_store.specs.declared.config.RunningConfig.{RunningConfig}
use Rattle.sled_store.specs.Device.{Trace, state_of}
use Rattle.sled_core.specs.declared.iterator.Segment.{Segment}
use Rattle.sled_core.specs.declared.iterator.scan.ScannedRecord.{ScannedRecord}
use Rattle.sled_core.specs.declared.iterator.rest.Rest.{Rest}
use Rattle.sled_log.specs.Recovery.{begun_below, tail_end}
use Rattle.sled_log.specs.IteratorBegins.{IsBegun, Begins}
use Rattle.sled_core.specs.Iterates.{Item, Damage, GivesOf, IsIteration}
use Rattle.sled_core.specs.inside.Ahead.{IsLeft, LeftBehind}
use Rattle.sled_core.proofs.Iterates.LeftLemmas.{left_spent}
use Rattle.sled_log.proofs.Iterates.FoundLemmas.{begun_in, none_begun}

-- what is ahead of an iterator, where more is known of it
begun_as : (sum : List ℕ → ℕ) (size : ℕ) (log : List ℕ) (blobs : ℤ → Option (List ℕ)) (ss : List Segment) (ahead after : List Item → Damage → Type 0) → ((items : List Item) (damage : Damage) → ahead items damage → after items damage)
    → (o : Option ℕ) → IsBegun sum size log blobs ss o ahead → IsBegun sum size log blobs ss o after
begun_as sum size log blobs ss ahead after then None begun = then [] None begun
begun_as sum size log blobs ss ahead after then (Some end) begun = λ items damage is. then items damage (begun items damage is)

pub begins_as : (sum : List ℕ → ℕ) (size : ℕ) (log : List ℕ) (blobs : ℤ → Option (List ℕ)) (least : ℕ) (ahead after : List Item → Damage → Type 0) → ((items : List Item) (damage : Damage) → ahead items damage → after items damage)
    → Begins sum size log blobs least ahead → Begins sum size log blobs least after
begins_as sum size log blobs least ahead after then begins =
    let behind = begins.2 in
    (begins.0, begins.1, (behind.0, behind.1, behind.2, begun_as sum size log blobs begins.0 ahead after then (tail_end behind.0) behind.3))

module _ {D C : Type 0} (trace : D → Trace) (sum : List ℕ → ℕ) (config : RunningConfig D C) (r : Rest) (strict : r.strict ≡ false) (ss : List Segment) where
  abbrev log : List ℕ
  log = (state_of (trace config.device)).log.bytes

  abbrev blobs : ℤ → Option (List ℕ)
  blobs = (state_of (trace config.device)).blobs.file

  abbrev size : ℕ
  size = config.config.segment_size

  inside_begun : (end : ℕ) → r.segments.items ≡ begun_below end ss → ((x : Segment) → Contains ss x → x.slot ≤ length log) → (x : Segment) → Contains r.segments.items x → x.slot ≤ length log
  inside_begun end segments inside x there = inside x (begun_in end ss x (subst (λ (l : List Segment). Contains l x) segments there))

  -- none of it was read
  pub left_begun : (o : Option ℕ) → r.segments.items ≡ begun_below (unwrap_or o 0) ss → r.end ≡ unwrap_or o 0 → r.read ≡ 0 → r.met.items ≡ [] → r.given ≡ 0 → r.damaged ≡ false → ((x : Segment) → Contains ss x → x.slot ≤ length log)
      → IsBegun sum size log blobs ss o (IsLeft trace sum config r)
  unfolding IsLeft
  left_begun None segments end read met given undamaged inside =
      let no_segment = ap length (segments ∙ none_begun ss) in
      let no_record = ap length met in
      left_spent trace sum config r [] None (λ _. inside_begun 0 segments inside) (omega (arith, no_segment), (omega (arith, no_record), undamaged)) refl refl
  left_begun (Some last) segments end read met given undamaged inside = λ items damage is. (
    λ _. inside_begun last segments inside,
    subst (λ (b : Bool). GivesOf sum blobs r.end (drop r.given r.met.items) (LeftBehind b (IsIteration sum size log blobs r.end r.strict (drop r.read r.segments.items))) items damage) (sym undamaged)
        (subst (λ (b : Bool). GivesOf sum blobs r.end (drop r.given r.met.items) (IsIteration sum size log blobs r.end b (drop r.read r.segments.items)) items damage) (sym strict)
        (subst (λ n. GivesOf sum blobs n (drop r.given r.met.items) (IsIteration sum size log blobs n false (drop r.read r.segments.items)) items damage) (sym end)
        (subst (λ n. GivesOf sum blobs last (drop n r.met.items) (IsIteration sum size log blobs last false (drop r.read r.segments.items)) items damage) (sym given)
        (subst (λ (ms : List ScannedRecord). GivesOf sum blobs last ms (IsIteration sum size log blobs last false (drop r.read r.segments.items)) items damage) (sym met)
        (subst (λ n. IsIteration sum size log blobs last false (drop n r.segments.items) items damage) (sym read)
        (subst (λ (l : List Segment). IsIteration sum size log blobs last false l items damage) (sym segments) is)))))),
  )
