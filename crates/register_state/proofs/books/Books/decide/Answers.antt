use Rattle.register_state.proofs.Shelved.{accredit-shelves, upload-shelves}
use Rattle.register_state.proofs.books.Books.decide.Goals as goal

pub returns-in-Accredit-clause-shelf : goal.returns-in-Accredit-clause-shelf
returns-in-Accredit-clause-shelf g c =
    let office = c.args.self.now in
    accredit-shelves office.limits office.history _ _ c.args.shelf.now c.accredit.result c.requires.shelf c.accredit.ensures.decides

pub returns-in-Upload-clause-shelf : goal.returns-in-Upload-clause-shelf
returns-in-Upload-clause-shelf g c =
    let office = c.args.self.now in
    upload-shelves office.limits office.history _ _ c.args.shelf.now c.upload.result c.requires.shelf c.upload.ensures.decides
