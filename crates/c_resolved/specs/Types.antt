-- Types of C, and how values of one become values of another (C11, 6.2.5 and 6.3).
use Rattle.std.specs.Prelude.{ℕ, ◌+◌, ◌-◌, Bool, true, false, not, ◌&&◌, nat_eq, nat_lt, if◌then◌else◌}
use Rattle.seh_num.specs.declared.width.Width.{Width}
use Rattle.seh_num.specs.declared.width.Width.TheVariants.{W8, W16, W32, W64}
use Rattle.seh_num.specs.Widths.{bytes_of}
use Rattle.c_operations.specs.declared.operation.Size.{Size}
use Rattle.c_operations.specs.declared.operation.Size.TheVariants as sizes
use Rattle.c_operations.specs.declared.operation.Signedness.{Signedness}
use Rattle.c_operations.specs.declared.operation.Signedness.TheVariants as sorts
use Rattle.c_checked.specs.declared.expression.Access.{Access}
use Rattle.c_checked.specs.declared.expression.Conversion.{Conversion}
use Rattle.c_checked.specs.declared.expression.Conversion.TheVariants.{Kept, Extend, Scale}
use Rattle.c_syntax.specs.declared.expression.Base.{Base}
use Rattle.c_syntax.specs.declared.expression.Base.TheVariants.{Void, Char, UnsignedChar, Short, UnsignedShort, Int, Unsigned, LongLong, UnsignedLongLong}
use Rattle.c_syntax.specs.declared.expression.CType.{CType}

abbrev pub plain : Base → CType
plain base = record { base = base; pointers = 0 }

abbrev pub pointer_to : CType → CType
pointer_to t = record { base = t.base; pointers = t.pointers + 1 }

-- what a pointer points to
abbrev pub pointed : CType → CType
pointed t = record { base = t.base; pointers = t.pointers - 1 }

abbrev pub is_void_base : Base → Bool
is_void_base Void = true
is_void_base other = false

abbrev pub is_pointer : CType → Bool
is_pointer t = nat_lt 0 t.pointers

abbrev pub is_void : CType → Bool
is_void t = is_void_base t.base && not (is_pointer t)

abbrev pub is_integer : CType → Bool
is_integer t = not (is_pointer t) && not (is_void_base t.base)

-- an integer or a pointer
abbrev pub is_scalar : CType → Bool
is_scalar t = not (is_void t)

abbrev pub is_void_pointer : CType → Bool
is_void_pointer t = is_void_base t.base && nat_eq t.pointers 1

-- a pointer to what has a size
abbrev pub is_sized_pointer : CType → Bool
is_sized_pointer t = is_pointer t && not (is_void_pointer t)

abbrev pub same_base : Base → Base → Bool
same_base Void Void = true
same_base Char Char = true
same_base UnsignedChar UnsignedChar = true
same_base Short Short = true
same_base UnsignedShort UnsignedShort = true
same_base Int Int = true
same_base Unsigned Unsigned = true
same_base LongLong LongLong = true
same_base UnsignedLongLong UnsignedLongLong = true
same_base a b = false

abbrev pub same_type : CType → CType → Bool
same_type a b = nat_eq a.pointers b.pointers && same_base a.base b.base

-- ---- how values are in memory and in the machine

abbrev pub base_width : Base → Width
base_width Void = W8
base_width Char = W8
base_width UnsignedChar = W8
base_width Short = W16
base_width UnsignedShort = W16
base_width Int = W32
base_width Unsigned = W32
base_width LongLong = W64
base_width UnsignedLongLong = W64

abbrev pub base_sort : Base → Signedness
base_sort Void = sorts.Unsigned
base_sort Char = sorts.Signed
base_sort UnsignedChar = sorts.Unsigned
base_sort Short = sorts.Signed
base_sort UnsignedShort = sorts.Unsigned
base_sort Int = sorts.Signed
base_sort Unsigned = sorts.Unsigned
base_sort LongLong = sorts.Signed
base_sort UnsignedLongLong = sorts.Unsigned

-- pointers are unsigned numbers of 64 bits
abbrev pub width_of : CType → Width
width_of t = if is_pointer t then W64 else base_width t.base

abbrev pub sort_of : CType → Signedness
sort_of t = if is_pointer t then sorts.Unsigned else base_sort t.base

abbrev pub access_of : CType → Access
access_of t = record { width = width_of t; signedness = sort_of t }

abbrev pub size_of_width : Width → Size
size_of_width W8 = sizes.Int
size_of_width W16 = sizes.Int
size_of_width W32 = sizes.Int
size_of_width W64 = sizes.Long

-- the size of the numbers that represent values of a type
abbrev pub size_of : CType → Size
size_of t = size_of_width (width_of t)

abbrev pub bytes_in : CType → ℕ
bytes_in t = bytes_of (width_of t)

-- ---- conversions

-- char and short are promoted to int, which changes no number
abbrev pub promoted_base : Base → Base
promoted_base Void = Void
promoted_base Char = Int
promoted_base UnsignedChar = Int
promoted_base Short = Int
promoted_base UnsignedShort = Int
promoted_base Int = Int
promoted_base Unsigned = Unsigned
promoted_base LongLong = LongLong
promoted_base UnsignedLongLong = UnsignedLongLong

abbrev pub promoted : CType → CType
promoted t = plain (promoted_base t.base)

-- of two promoted bases the wider one wins, and at equal width the unsigned one
abbrev pub wider : Base → Base → Base
wider UnsignedLongLong b = UnsignedLongLong
wider LongLong UnsignedLongLong = UnsignedLongLong
wider LongLong b = LongLong
wider Unsigned UnsignedLongLong = UnsignedLongLong
wider Unsigned LongLong = LongLong
wider Unsigned b = Unsigned
wider a b = b

abbrev pub common : CType → CType → CType
common a b = plain (wider (promoted_base a.base) (promoted_base b.base))

-- a number of this width and sort, as one of another width
abbrev pub to_width : Width → Signedness → Width → Signedness → Conversion
to_width from s W8 t = Extend t W8 sizes.Int
to_width from s W16 t = Extend t W16 sizes.Int
to_width W64 s W32 t = Extend sorts.Unsigned W32 sizes.Int
to_width from s W32 t = Kept
to_width W64 s W64 t = Kept
to_width from s W64 t = Extend s W32 sizes.Long

-- between integers and pointers
abbrev pub conversion : CType → CType → Conversion
conversion from to =
    if same_type from to then Kept else to_width (width_of from) (sort_of from) (width_of to)
    (sort_of to)

abbrev pub index_width : Width → Width
index_width W64 = W64
index_width other = W32

-- an index, scaled
abbrev pub scaled : CType → ℕ → Conversion
scaled from by = Scale (sort_of from) (index_width (width_of from)) by
