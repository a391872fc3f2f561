-- Views of images: what an opening makes of the bytes, and what is found by any view.
--
-- The main definitions: `IsViewOf`, `OpenAnswers`, `IsFunctionOf`.
use Rattle.std.specs.Prelude.{◌≡◌, ◌⊎◌, ℕ, List, length, Bool, Ok, Err}
use Rattle.pe_image.specs.Image.{Image}
use Rattle.eh_tables.specs.Tables.{Entry, Tables, directory, entry_at}
use Rattle.eh_index.specs.Indexes.{IsIndexOf, IsRowFor}
use Rattle.seh_views.specs.declared.c_types.SehFunction.{SehFunction}
use Rattle.seh_views.specs.declared.c_types.SehStatus.{SehStatus}
use Rattle.seh_views.specs.declared.c_types.SehView.{SehView}
use Rattle.seh_views.specs.declared.refusal.Refusal.{Refusal}
use Rattle.seh_views.specs.Openings.{Gives, opened, table_of, table_in}
use Rattle.seh_views.specs.Shapes.{c_function, layout, layout_of}
use Rattle.seh_views.specs.Statuses.{ok, refusal_status}

-- ---- a view that an opening made

-- the ranges of the function table of an image ascend, and the view has an index of them
pub record IsKnown (v : SehView) (image : Image) : Type 0 where
  pub tables : Tables
  pub read : table_of image ≡ Ok tables
  pub index : IsIndexOf tables.ranges v.shift v.index.now

-- the view says what opening its bytes finds: an image whose function table ascends, and an index
-- of that table
pub record IsViewOf (v : SehView) : Type 0 where
  pub image : Image
  pub is : opened (layout v) v.bytes.now ≡ Ok image
  pub known : IsKnown v image

-- and has the image's numbers
pub record HasNumbers (v : SehView) : Type 0 where
  pub tables : Tables
  pub is : table_in (layout v) v.bytes.now ≡ Ok tables
  pub base : v.preferred_base ≡ tables.image.base
  pub size : v.size ≡ tables.image.size
  pub entry_point : v.entry_point ≡ tables.image.entry
  pub functions : v.functions ≡ length tables.ranges

-- a view of these bytes, in that form, of an image at a base
pub record IsOpened (mapped : Bool) (bytes : List ℕ) (base : ℕ) (v : SehView) : Type 0 where
  pub view : IsViewOf v
  pub numbers : HasNumbers v
  pub of_bytes : v.bytes.now ≡ bytes
  pub in_layout : layout v ≡ layout_of mapped
  pub at_base : v.base ≡ base

-- ---- what opening writes and returns

pub record Opens (mapped : Bool) (bytes : List ℕ) (base : ℕ) (new : SehView) (given : SehStatus)
    : Type 0 where
  pub view : IsOpened mapped bytes base new
  pub status : given ≡ ok

-- a refusal says why the bytes have no table in order, or that memory is wanting
pub record OpensNone (mapped : Bool) (bytes : List ℕ) (old new : SehView) (given : SehStatus)
    : Type 0 where
  pub refusal : Refusal
  pub is : Gives {A = Tables} (Err refusal) (table_in (layout_of mapped) bytes)
  pub status : given ≡ refusal_status refusal
  pub kept : new ≡ old

-- what `seh_open` returns and writes: a view of these bytes, in that form, at that base, or why
-- there is none
abbrev pub OpenAnswers : Bool → List ℕ → ℕ → SehView → SehView → SehStatus → Type 0
OpenAnswers mapped bytes base old new given =
    Opens mapped bytes base new given ⊎ OpensNone mapped bytes old new given

-- ---- by any view

-- an entry that covers an address, read
pub record IsFound (t : Tables) (rva : ℕ) (e : Entry) : Type 0 where
  pub index : ℕ
  pub row : IsRowFor rva t.ranges index
  pub read : entry_at t index ≡ Ok e

pub record IsFunctionAt (t : Tables) (rva : ℕ) (f : SehFunction) : Type 0 where
  pub entry : Entry
  pub found : IsFound t rva entry
  pub is : f ≡ c_function entry

-- of the function table of an image
pub record IsFunctionIn (image : Image) (rva : ℕ) (f : SehFunction) : Type 0 where
  pub tables : Tables
  pub stored : directory image ≡ Ok tables.ranges
  pub of_image : tables.image ≡ image
  pub function : IsFunctionAt tables rva f

-- of the bytes of a view: what `seh_find_function` writes, whatever the view holds
pub record IsFunctionOf (v : SehView) (rva : ℕ) (f : SehFunction) : Type 0 where
  pub image : Image
  pub read : opened (layout v) v.bytes.now ≡ Ok image
  pub function : IsFunctionIn image rva f
