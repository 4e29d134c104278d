use Rattle.std.{proofs.Common.subst, proofs.Common.sym, proofs.lemmas.Str.IsUtf8-from_is_utf8, specs.Str.IsUtf8}

pub unreachable-requires : Rattle.scene_fields.proofs.owned_text.OwnedText.as_str.Goals.unreachable-requires
unreachable-requires c = c.in-Err.ensures.cases.0
    (subst IsUtf8 (sym c.as_slice.ensures) (IsUtf8-from_is_utf8 _ c.self.inside.valid))
