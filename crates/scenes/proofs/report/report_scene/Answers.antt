use Rattle.std.proofs.Common.{◌≡◌, ◌⊎◌, ℕ, List, Option, None, Some, Result, Bor, inl, inr, refl}
use Rattle.{std.proofs.lemmas.Result.IfErr-weaker, std.proofs.lemmas.Result.on_ok_weaker}
use Rattle.command_line.specs.declared.args.StoreOptions.{StoreOptions}
use Rattle.scene_follower.proofs.Common.{Begins, device, Fault, Options, Prints}
use Rattle.scene_follower.specs.Names.{OfText}
use Rattle.scenes.specs.Names.{IsRejected, OfStore}
use Rattle.scenes.proofs.report.report_scene.Goals as goal

module _ {S : Type 0} (contents : S → Option (List ℕ)) (created : Bor (List ℕ) → Result S Fault → Type 0) where
  -- no store was asked for
  unstored : (asked : Option StoreOptions) (holds : Option (List ℕ) → Option (List ℕ) → Type 0) → asked ≡ None
      → holds None None → OfStore contents created asked None holds
  unstored None holds is h = (refl, h)
  unstored (Some store) holds is h = absurd (cc)

  unstored_fails : {W A : Type 0} (options : Options) (text : List ℕ) (fault : Fault) (old new : W)
      (holds : Option (List ℕ) → Option (List ℕ) → Type 0) → options.store ≡ None
      → IsRejected {S = Option (List ℕ)} options text fault (old, None) (new, None) ⊎ holds None None
      → IsRejected {S = Option S} options text fault (old, None) (new, None) ⊎ A
      ⊎ OfStore contents created options.store None holds
  unstored_fails options text fault old new holds is (inl rejected) = inl (record {
    judged = rejected.judged;
    of_judge = rejected.of_judge;
    untouched = (rejected.untouched.0, refl);
  })
  unstored_fails options text fault old new holds is (inr begun) = inr (inr (unstored options.store holds is begun))

pub returns-in_default-clause-ok : goal.returns-in_default-clause-ok
returns-in_default-clause-ok g c = λ text known. on_ok_weaker _
    (unstored g.S.Write.contents (λ path. g.F.FnOnce.post c.args.create_store (path, tt)) c.args.options.now.store
    (λ store_old store_new. OfText text
    (Prints device device c.args.options.now (g.W.Write.contents c.args.writer, store_old)
    (g.W.Write.contents c.report_gathered-writer.result.1, store_new))) c.in_default.is)
    (c.report_gathered-writer.ensures.ok text None known)

pub returns-in_default-clause-err : goal.returns-in_default-clause-err
returns-in_default-clause-err g c = λ text known. IfErr-weaker _ _ _
    (λ fault. unstored_fails g.S.Write.contents (λ path. g.F.FnOnce.post c.args.create_store (path, tt))
    c.args.options.now text fault c.args.writer c.report_gathered-writer.result.1
    (λ store_old store_new. OfText text
    (λ run. Begins device device c.args.options.now (g.W.Write.contents c.args.writer, store_old)
    (g.W.Write.contents c.report_gathered-writer.result.1, store_new) run fault)) c.in_default.is)
    (c.report_gathered-writer.ensures.err text None known)
