use Rattle.std.proofs.Common.{refl}
use Rattle.clap.specs.Matches.{found_of}
use Rattle.iim_request.proofs.Requests.{tells_packing}
use Rattle.iim_request.proofs.request.pack_job.Goals as goal

pub returns-then-is_max_alone-clause-err : goal.returns-then-is_max_alone-clause-err
returns-then-is_max_alone-clause-err c =
    let f = found_of c.args.found.now in
    let alone = c.is_max_alone.ensures.yes c.if-is_max_alone.true in
    let told = tells_packing f c.get_str.result c.get_str-2.result c.subfile_option-subfile.result c.get_flag-unknown.result c.number_option-max.result
    c.get_str.ensures c.get_str-2.ensures c.subfile_option-subfile.ensures.given c.get_flag-unknown.ensures.none c.get_flag-unknown.ensures.value
    c.get_flag-unknown.ensures.other c.number_option-max.ensures.given in (
      refl,
      (
        c.subfile_option-subfile.result,
        c.number_option-max.result,
        rw alone.1 at told,
        alone.0,
      ),
    )

pub returns-clause-ok : goal.returns-clause-ok
returns-clause-ok c =
    let f = found_of c.args.found.now in (
      refl,
      tells_packing f c.get_str.result c.get_str-2.result c.subfile_option-subfile.result c.get_flag-unknown.result c.number_option-max.result
          c.get_str.ensures c.get_str-2.ensures c.subfile_option-subfile.ensures.given c.get_flag-unknown.ensures.none c.get_flag-unknown.ensures.value
          c.get_flag-unknown.ensures.other c.number_option-max.ensures.given,
      c.is_max_alone.ensures.no c.if-is_max_alone.false,
    )
