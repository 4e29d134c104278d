use Rattle.std.proofs.Common.{◌≡◌, ◌+◌, refl, arith}
use Rattle.std.proofs.lemmas.Grind.{common_steps}
use Rattle.scene_reader.specs.Names.{call_by_names}
use Rattle.scene_reader.specs.SceneTexts.ParsedLine.{EventLine}
use Rattle.scene_reader.proofs.reader.LinesRead.pass_call.Goals as goal

pub returns : goal.returns
returns g c =
    let number : c.in_ok-next.next ≡ c.args.self.now.next + 1 = grind (arith, common_steps) in
    rw c.count_event.ensures (record {
      ok = (
        EventLine (call_by_names c.in-Ok.call),
        c.into_stored-stored.result.items,
        rw (c.in-Ok.ensures, c.into_stored-stored.ensures) refl,
        (c.in-Ok.call, refl, rw c.as_slice.ensures.value at c.in_ok-lend-in-Ok.ensures),
        refl,
        number,
      );
      err = tt;
    })
