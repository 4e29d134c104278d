use Rattle.std.proofs.Common.{◌<◌, arith, get_or-take, length-take}

pub returns-in-Some : Rattle.scene_fields.proofs.split.first_place.Goals.returns-in-Some
returns-in-Some c =
    let t = c.args.text.now in
    let found = c.in-Some.ensures in
    let near : c.in-Some.place < 16 = omega (arith, found.0.high, length-take 16 t) in (
      record {
        low = found.0.low;
        high = omega (arith, c.if-text-lt-NEAR.false);
        before = λ k low high p. found.0.before k low high (rw (get_or-take 16 t k 0 (omega arith)) p);
      },
      rw (get_or-take 16 t c.in-Some.place 0 near) at found.1,
    )
