-- The buffers of a log that can be written, once one more is sealed, once a reservation has ended, and once one of them is written.
use Rattle.std.proofs.Common.{◌≡◌, ◌∙◌, ◌+◌, ◌-◌, ◌/◌, nat_lt, ap, sym, refl, subst, ℕ, Bool, true, false, if◌then◌else◌, List, [], ◌∷◌, ◌++◌, length, map, drop, set, Some}
use Rattle.std.specs.List.{slice_get}
use Rattle.sled_core.specs.Begun.{SegmentView, segment_view, view_at}
use Rattle.sled_core.specs.inside.Buffers.{IsHeaded, ended}
use Rattle.sled_core.specs.invariants.Caps.{segment_rest}
use Rattle.sled_core.specs.declared.iobuf.IoBuf.{IoBuf}
use Rattle.sled_core.specs.declared.iobuf.ReservationState.{ReservationState}
use Rattle.sled_core.specs.declared.iobuf.Reserved.{Reserved}
use Rattle.sled_core.specs.declared.iobuf.Sealed.{Sealed}
use Rattle.sled_core.specs.declared.iobuf.SegmentPosition.{SegmentPosition}
use Rattle.sled_core.specs.declared.logger.Log.{Log}
use Rattle.sled_core.specs.declared.logger.ready.ReadyBuffers.{ReadyBuffers}
use Rattle.sled_core.specs.Fits.{current_of, line_of}
use Rattle.sled_core.specs.inside.ReadyBuffers.{AreReady, EndedOne, HasOwn}
use Rattle.sled_core.specs.inside.SealedBuffers.{AreSealed, is_ready, one_ended, written_at}
use Rattle.sled_core.specs.SealedBuffers.{seal_at, sealed_count}
use Rattle.sled_core.specs.inside.Turned.{HasOpenIn, IsReadyIn, ended_now, promoted, written_now}
use Rattle.sled_core.specs.Waiting.{at_last, closed_now, sealed_now, with_filling}
use Rattle.sled_core.proofs.Line.LogWrites.{segments_written}
use Rattle.sled_core.proofs.Line.Segments.{line_segments, nth_segment}
use Rattle.sled_core.proofs.Pending.Places.{held_run, ready_run}
use Rattle.sled_core.proofs.Pending.Segments.{at_last_ready, before_places, behind_places, last_ready, other_held, own_ready, promoted_ready, set_ready}
use Rattle.sled_core.proofs.Reserve.Ranges.{at_there}
use Rattle.sled_core.proofs.Holds.Nth.{set_get}

-- A segment with one more sealed buffer, which isn't written.
pub record SealsOne (v w : SegmentView) : Type 0 where
  pub site : w.parts.site ≡ v.parts.site
  pub from : w.parts.written_len ≡ v.parts.written_len
  pub buffer : Sealed
  pub fresh : buffer.is_written ≡ false
  pub sealed : w.parts.sealed ≡ v.parts.sealed ++ buffer ∷ []

pub seals_now : (v : SegmentView) → SealsOne v (sealed_now v)
seals_now v = record { site = refl; from = refl; buffer = seal_at (length v.parts.bytes) (drop (sealed_count v.parts.sealed) v.parts.reserved); fresh = refl; sealed = refl }

pub seals_closed : (sum : List ℕ → ℕ) (size : ℕ) (v : SegmentView) → SealsOne v (closed_now sum size v)
seals_closed sum size v = by (nat_lt (length v.parts.bytes) size) where
  by : (o : Bool) → SealsOne v (sealed_now (if o then with_filling size v (segment_rest sum size (v.parts.site.place / size) (length v.parts.bytes)) else v))
  by true = let w : SegmentView = with_filling size v (segment_rest sum size (v.parts.site.place / size) (length v.parts.bytes)) in
      record { site = refl; from = refl; buffer = seal_at (length w.parts.bytes) (drop (sealed_count w.parts.sealed) w.parts.reserved); fresh = refl; sealed = refl }
  by false = seals_now v

module _ {D C : Type 0} (log : Log D C) where
  abbrev before : List ℕ
  before = before_places (length (map segment_view log.segments.behind.items)) (line_of log)

  abbrev others : ℕ
  others = other_held (length (map segment_view log.segments.behind.items)) (line_of log)

  -- what code knows of the segment that is being filled
  pub current_own : HasOwn log.ready (current_of log).parts.site.place (current_of log).parts.written_len (current_of log).parts.sealed before [] others
  current_own = last_ready log.config.config.segment_size log.segments.first.site.place (segment_view log.segments.first) (map segment_view log.segments.behind.items) log.ready (line_segments log) log.line.indexed

  -- One more is sealed in it.
  pub seals_ready : (f : SegmentView → SegmentView) → SealsOne (current_of log) (f (current_of log)) → (site : SegmentPosition) (b : IoBuf) → view_at site b ≡ f (current_of log) → (old now : ReadyBuffers) → old.places.items ≡ log.ready.places.items → old.held ≡ log.ready.held
      → ((bs : List Sealed) (x : Sealed) (before : List ℕ) (others : ℕ) → b.sealed.items ≡ bs ++ x ∷ [] → x.is_written ≡ false → HasOwn old site.place b.written_len bs before [] others → HasOwn now site.place b.written_len b.sealed.items before [] others)
      → AreReady (at_last f (line_of log)) now
  seals_ready f seals site b view old now places held noted =
      let v : SegmentView = current_of log in
      let own = current_own in
      let at : v.parts.site ≡ site = sym seals.site ∙ ap (λ (w : SegmentView). w.parts.site) (sym view) in
      let from : v.parts.written_len ≡ b.written_len = sym seals.from ∙ ap (λ (w : SegmentView). w.parts.written_len) (sym view) in
      let sealed : b.sealed.items ≡ v.parts.sealed ++ seals.buffer ∷ [] = ap (λ (w : SegmentView). w.parts.sealed) view ∙ seals.sealed in
      let same : HasOwn old v.parts.site.place v.parts.written_len v.parts.sealed before [] others = record { places = places ∙ own.places; held = held ∙ own.held; low = own.low; high = own.high } in
      let moved : HasOwn old site.place b.written_len v.parts.sealed before [] others =
      subst (λ (p : SegmentPosition). HasOwn old p.place b.written_len v.parts.sealed before [] others) at (subst (λ n. HasOwn old v.parts.site.place n v.parts.sealed before [] others) from same) in
      at_last_ready f (segment_view log.segments.first) (map segment_view log.segments.behind.items) now
      (subst (λ (w : SegmentView). HasOwn now w.parts.site.place w.parts.written_len w.parts.sealed before [] others) view (noted v.parts.sealed seals.buffer before others sealed seals.fresh moved))

  -- A reservation of a segment has ended.
  module _ (n index : ℕ) (its : HasOpenIn (line_of log) n index) (text : List ℕ) (state : ReservationState) where
    abbrev v : SegmentView
    v = its.segment

    abbrev i : ℕ
    i = index - v.gone

    abbrev w : SegmentView
    w = ended_now i its.reserved text state v

    module _ (site : SegmentPosition) (b : IoBuf) (view : view_at site b ≡ w) (j : ℕ) (same : j ≡ i) where
      ended_one : EndedOne b j v.parts.sealed v.parts.reserved
      ended_one =
          let is = nth_segment log.config.config.segment_size log.segments.first.site.place (line_of log) (line_segments log) n v its.among in
          let from : v.parts.written_len ≡ b.written_len = ap (λ (x : SegmentView). x.parts.written_len) (sym view) in
          let are = subst (λ m. AreSealed m v.parts.reserved v.parts.sealed) from is.are in
          record {
            sealed = ap (λ (x : SegmentView). x.parts.sealed) view ∙ ap (λ m. one_ended m v.parts.sealed) (sym same);
            are = are;
            reserved = ended state its.reserved;
            there = (λ k. slice_get ((ap (λ (x : SegmentView). x.parts.reserved) view) k) (same k)) ∙ set_get v.parts.reserved i its.reserved (ended state its.reserved) its.there;
            own = λ theirs. record {
              reserved = its.reserved;
              are = are;
              theirs = theirs;
              there = ap (slice_get v.parts.reserved) same ∙ its.there;
              begins = refl;
              some = (at_there IsHeaded v.parts.reserved i its.reserved its.there is.headed).0;
              open_yet = its.open_yet;
            };
          }

      ended_own : HasOwn log.ready site.place b.written_len v.parts.sealed (before_places n (line_of log)) (behind_places n (line_of log)) (other_held n (line_of log))
      ended_own =
          subst (λ (x : SegmentView). HasOwn log.ready x.parts.site.place x.parts.written_len v.parts.sealed (before_places n (line_of log)) (behind_places n (line_of log)) (other_held n (line_of log))) (sym view)
          (own_ready log.config.config.segment_size log.segments.first.site.place (line_of log) n v log.ready (line_segments log) its.among log.line.indexed)

      -- what code asks of it
      pub ended_asks : (bs : List Sealed) × (rs : List Reserved) × (before : List ℕ) × (behind : List ℕ) × (others : ℕ) × EndedOne b j bs rs × HasOwn log.ready site.place b.written_len bs before behind others
      ended_asks = (v.parts.sealed, v.parts.reserved, before_places n (line_of log), behind_places n (line_of log), other_held n (line_of log), ended_one, ended_own)

      -- and what is known then
      pub ended_ready : (now : ReadyBuffers)
          → ((bs : List Sealed) (rs : List Reserved) (before behind : List ℕ) (others : ℕ) → EndedOne b j bs rs → HasOwn log.ready site.place b.written_len bs before behind others → HasOwn now site.place b.written_len b.sealed.items before behind others)
          → AreReady (set (line_of log) n w) now
      ended_ready now noted =
          let known = subst (λ (x : SegmentView). HasOwn now x.parts.site.place x.parts.written_len x.parts.sealed (before_places n (line_of log)) (behind_places n (line_of log)) (other_held n (line_of log))) view
          (noted v.parts.sealed v.parts.reserved (before_places n (line_of log)) (behind_places n (line_of log)) (other_held n (line_of log)) ended_one ended_own) in
          set_ready (line_of log) n v w now its.among known.places known.held

  -- A sealed buffer is written.
  module _ (n k : ℕ) (r : IsReadyIn (line_of log) n k) (site : SegmentPosition) (b : IoBuf) (there : slice_get (line_of log) n ≡ Some (view_at site b)) where
    pub written_ready : (now : ReadyBuffers)
        → ((x : Sealed) (before behind : List ℕ) (others : ℕ) → slice_get b.sealed.items k ≡ Some x → is_ready x ≡ true → HasOwn log.ready site.place b.written_len b.sealed.items before behind others
        → HasOwn now site.place b.written_len (written_at k b.sealed.items) before behind others)
        → AreReady (promoted log.config.config.segment_size (set (line_of log) n (written_now k r.segment))) now
    written_ready now noted =
        let both : Some r.segment ≡ Some (view_at site b) = sym r.among ∙ there in
        let same : r.segment ≡ view_at site b = cc in
        let own = own_ready log.config.config.segment_size log.segments.first.site.place (line_of log) n (view_at site b) log.ready (line_segments log) there log.line.indexed in
        let known = noted r.buffer (before_places n (line_of log)) (behind_places n (line_of log)) (other_held n (line_of log)) (ap (λ (x : SegmentView). slice_get x.parts.sealed k) (sym same) ∙ r.there) r.ready own in
        let cs : List Sealed = written_at k b.sealed.items in
        let all : AreReady (set (line_of log) n (written_now k (view_at site b))) now =
        set_ready (line_of log) n (view_at site b) (written_now k (view_at site b)) now there
        (known.places ∙ ap (λ (l : List ℕ). before_places n (line_of log) ++ l ++ behind_places n (line_of log)) (sym (ready_run site.place b.written_len cs)))
        (known.held ∙ ap (λ m. other_held n (line_of log) + m) (sym (held_run cs))) in
        promoted_ready log.config.config.segment_size log.segments.first.site.place (set (line_of log) n (written_now k r.segment)) now (segments_written log n k r)
        (subst (λ (x : SegmentView). AreReady (set (line_of log) n (written_now k x)) now) (sym same) all)
