mod Measuring
