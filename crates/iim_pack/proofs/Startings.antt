-- Starting a packer.
use Rattle.iim_pack.proofs.Words.{◌≡◌, ℕ, ◌+◌, List, [], ◌++◌, length, take, refl, sym, subst, ◌∙◌, arith, append-nil, length-append, Device, WroteAllOf, WroteOnlyPrefixOf, WithinInterruptionLimit, WritesJoin, Dataset, canonical_stream, Writing, IsWrittenFrom, IsPrefix, Plan, StartFault, packed_text, Header, packed_head, packed_tail, FormWith, OpensObject, StartBreaksOff, StartsPacking}
use Rattle.std.proofs.Common.{length-take}
use Rattle.iim_fields.specs.Format.Records.{IsEnvelope}
use Rattle.iim_object.specs.States.Writing as object
use Rattle.iim_object.specs.declared.writing.cause.PackCause.TheVariants as causes
use Rattle.wire_message.specs.Format.Messages.{IsHeader}
use Rattle.iim_pack.proofs.{Goings.begins_after, Openings.begins_by, Openings.halts_after, Openings.total_is}

-- records 1 and 2 could not be written
pub fields_broke : {W : Type 0} (state : W → Device) (writer : W) (fields : List Dataset) (head : Header) (plan : Plan) (fault : StartFault W)
    → fault.cause ≡ causes.Write
    → WroteOnlyPrefixOf (state writer) (state fault.writer) (canonical_stream fields) fault.written
    → WithinInterruptionLimit (fault.written + 1) (state writer) (state fault.writer) → StartBreaksOff state (FormWith fields head plan []) writer fault
fields_broke state writer fields head plan fault cause s limit = record {
  cause_is = cause;
  out = take fault.written (canonical_stream fields);
  appends = s.1;
  broke = s.2;
  retry_limit = omega (arith, limit, s.0, length-take fault.written (canonical_stream fields));
  counted = omega (arith, s.0, length-take fault.written (canonical_stream fields));
  begins = λ whole form. begins_by (canonical_stream fields) form.packed.object whole fault.written form.packed.octets_are;
}

-- the object could not be started after records 1 and 2
pub object_broke : {W : Type 0} (state : W → Device) (writer first : W) (fields : List Dataset) (head : Header) (plan : Plan) (before : ℕ)
    (fault new : StartFault W) → WritesJoin → WroteAllOf (state writer) (state first) (canonical_stream fields)
    → before ≡ length (canonical_stream fields) → WithinInterruptionLimit before (state writer) (state first)
    → StartBreaksOff state (IsWrittenFrom plan (packed_head head)) first fault → new.cause ≡ fault.cause → new.writer ≡ fault.writer
    → new.written ≡ before + fault.written
    → StartBreaksOff state (FormWith fields head plan []) writer new
object_broke state writer first fields head plan before fault new join wrote counted limit h cause handed written =
    halts_after state (FormWith fields head plan []) writer first fault.writer new (canonical_stream fields) h.out before join wrote (h.appends, h.broke)
    handed (cause ∙ h.cause_is) (omega (arith, written, h.counted)) counted
    (omega (arith, limit, counted)) h.retry_limit
    (λ whole form.
    subst (λ (w : List ℕ). IsPrefix (canonical_stream fields ++ h.out) w) (sym form.packed.octets_are)
    (begins_after (canonical_stream fields) h.out form.packed.object
    (h.begins form.packed.object (packed_text form.lines ++ packed_tail form.trailer, form.packed.written))))

pub started : {W : Type 0} (state : W → Device) (writer first : W) (fields : List Dataset) (head : Header) (plan : Plan) (before : ℕ) (new : Writing W)
    → WritesJoin → IsEnvelope fields → IsHeader head
    → WroteAllOf (state writer) (state first) (canonical_stream fields) → before ≡ length (canonical_stream fields)
    → WithinInterruptionLimit before (state writer) (state first) → OpensObject state first plan (packed_head head) new
    → StartsPacking state writer fields head plan (record { before = before; object = new })
started state writer first fields head plan before new join envelope header wrote counted limit o = record {
  begun = record {
    out = canonical_stream fields ++ o.out;
    wrote = join.more (state writer) (state first) (state new.writer) (canonical_stream fields) o.out wrote o.wrote;
    counted = omega (arith, counted, o.stands.written, length-append (canonical_stream fields) o.out);
    stands = record {
      envelope = envelope;
      header = header;
      events_are = tt;
      is_plan = o.is_plan;
      before = counted;
      object_out = o.out;
      stands = subst (λ (t : List ℕ). object.HasWritten new t o.out) (sym (append-nil (packed_head head))) o.stands;
      out_is = refl;
    };
  };
  retry_limit = omega (arith, limit, counted, o.retry_limit, length-append (canonical_stream fields) o.out);
  total = sym (total_is new (packed_head head) o.out o.stands);
}
